-- Lane tables in which all rows of a channel hold one lane. Assumes nothing.
use Rattle.std.proofs.Common.{◌≡◌, ℕ, ◌+◌, ◌-◌, ◌*◌, ◌<◌, ◌≤◌, Bool, true, false, cond, ◌&&◌, List, length, min, leb, sym, refl, ap, ◌∙◌, ⊎_elim, arith, slice_index, lt-ltb, le-leb}
use Rattle.std.specs.Prelude.{◌==◌}
use Rattle.std.proofs.lemmas.Bool.{cases_Bool, cond-true, cond-false}
use Rattle.rack.specs.declared.rack.Rack.{Rack}
use Rattle.rack.specs.Racks.{nodes_of, channel_count, tail, tail_port}
use Rattle.rack.proofs.Facts.{tail_port_within}
use Rattle.routing.specs.Turns.{turns, row_start, row_lane, stored_lane, lane_bytes}
use Rattle.routing.proofs.Tests.{turns_below, turns_enters, entered}
use Rattle.builder.proofs.Rows.{row_inside}
use Rattle.workbench.specs.TwoHops.{lane_of, FilledRows, HoldsTwoHop}

-- the rows of the channels below a number hold the lane behind their channel
abbrev pub Filled : Rack → List ℕ → ℕ → Type 0
Filled r lanes n = (c j : ℕ) → c < n → j < 576 → slice_index lanes (576 * c + j) ≡ lane_of r c

-- the lane of a turn, by its byte
lane_byte : (r : Rack) (lanes : List ℕ) (c d s : ℕ) → turns r c d ≡ true → lane_bytes (channel_count r) ≤ length lanes → stored_lane r lanes c d s ≡ min (slice_index lanes (row_start c (tail_port r d) + s)) 7
lane_byte r lanes c d s turn long =
    let at = row_start c (tail_port r d) in
    cond-true (turns r c d) (row_lane lanes at s) 0 turn
    ∙ cond-true (leb (at + 16) (length lanes)) (min (slice_index lanes (at + s)) 7) 0 (le-leb _ _ (row_inside r lanes c d turn long))

low : (b : Bool) → min (cond b 1 0) 7 ≡ cond b 1 0
low true = refl
low false = refl

-- all channels are filled
pub filled_all : (r : Rack) (lanes : List ℕ) → lane_bytes (channel_count r) ≤ length lanes → FilledRows r lanes → HoldsTwoHop r lanes
filled_all r lanes long filled c d s small =
    let switch = slice_index (nodes_of r) (tail r c) == 2 in
    ⊎_elim
    (λ (turn : turns r c d ≡ true).
    let p = tail_port_within r d (turns_below r c d turn) in
    let b = (entered r c (turns_enters r c d turn)).0 in
    let j = 16 * (tail_port r d - 1) + s in
    let place : row_start c (tail_port r d) + s ≡ 576 * c + j = omega (arith, p.0) in
    let byte : slice_index lanes (576 * c + j) ≡ cond switch 1 0 = filled c j b (omega (arith, p.1)) ∙ (λ i. cond (lt-ltb c (channel_count r) b i && switch) 1 0) in
    lane_byte r lanes c d s turn long ∙ ap (λ n. min (slice_index lanes n) 7) place ∙ ap (λ n. min n 7) byte ∙ low switch ∙ sym (λ i. cond (turn i && switch) 1 0))
    (λ (no_turn : turns r c d ≡ false).
    cond-false (turns r c d) (row_lane lanes (row_start c (tail_port r d)) s) 0 no_turn ∙ sym (λ i. cond (no_turn i && switch) 1 0))
    (cases_Bool (turns r c d))
