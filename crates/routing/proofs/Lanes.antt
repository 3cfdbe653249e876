-- What the lane maps assign, from what the table holds. Assumes nothing.
use Rattle.std.proofs.Common.{◌≡◌, ℕ, ◌+◌, ◌<◌, ◌≤◌, min, true, leb, List, length, get_or, take, drop, Some, None, Option, MatchOption, sym, ap, ◌∙◌, le-leb}
use borrow.Author.Tests.{lt-leb}
use Rattle.std.proofs.lemmas.Bool.{cond-true, cond-false}
use Rattle.std.proofs.lemmas.List.{get_or-take, get_or-drop}
use Rattle.rack.specs.declared.rack.Rack.{Rack}
use Rattle.rack.specs.Racks.{tail_port}
use Rattle.routing.specs.declared.rows.Row.{Row}
use Rattle.routing.specs.Turns.{turns, row_start, row_lane, stored_lane}

-- the lanes in the row of a turn, as it was taken out of the table; 0 where it does not lie in the table
pub row_told : (r : Rack) (table : List ℕ) (c d p : ℕ) (o : Option Row) → turns r c d ≡ true → p ≡ tail_port r d
    → MatchOption o (length table < row_start c p + 16) (λ w. (row_start c p + 16 ≤ length table) × (w.lanes ≡ take 16 (drop (row_start c p) table)))
    → MatchOption o ((s : ℕ) → stored_lane r table c d s ≡ 0) (λ w. (s : ℕ) → s < 16 → min (get_or w.lanes s 0) 7 ≡ stored_lane r table c d s)
row_told r table c d p None turn port short = λ s.
    cond-true (turns r c d) (row_lane table (row_start c (tail_port r d)) s) 0 turn
    ∙ ap (λ n. row_lane table (row_start c n) s) (sym port)
    ∙ cond-false (leb (row_start c p + 16) (length table)) (min (get_or table (row_start c p + s) 0) 7) 0 (lt-leb _ _ short)
row_told r table c d p (Some w) turn port told = λ s low.
    ap (λ xs. min (get_or xs s 0) 7) told.1
    ∙ ap (λ n. min n 7) (get_or-take 16 (drop (row_start c p) table) s 0 low ∙ get_or-drop (row_start c p) table s 0)
    ∙ sym (cond-true (leb (row_start c p + 16) (length table)) (min (get_or table (row_start c p + s) 0) 7) 0 (le-leb _ _ told.0))
    ∙ ap (λ n. row_lane table (row_start c n) s) port
    ∙ sym (cond-true (turns r c d) (row_lane table (row_start c (tail_port r d)) s) 0 turn)
