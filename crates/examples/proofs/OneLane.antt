-- The triangle on one lane. Assumes nothing.
use Rattle.std.proofs.Common.{◌≡◌, ℕ, zero, suc, ◌+◌, ◌*◌, ◌<◌, not, ◌&&◌, ◌||◌, List, Ok, Err, Result, slice_index, refl, ap, arith, ltb-true, eqb-true, eq-eqb}
use Rattle.std.specs.Prelude.{nat_lt, ◌==◌}
use Rattle.std.proofs.lemmas.Bool.{and_from}
use Rattle.rack.specs.declared.rack.Rack.{Rack}
use Rattle.example_racks.specs.declared.TheConstants.{CLOCKWISE}
use Rattle.ranking.specs.Graphs.{IsRing}
use Rattle.routing.specs.Paths.{Routing, hop}
use Rattle.checking.specs.declared.acceptance.Acceptance.{Acceptance}
use Rattle.checking.specs.declared.fault.CheckFault.{CheckFault}
use Rattle.checking.specs.declared.fault.CheckFault.TheVariants.{Lanes, Tables, Level, Walk, Ring, Memory as NoMemory}
use Rattle.checking.specs.Answers.{TablesAt}
use Rattle.checking.specs.Plans.{IsFollowedBy, FirstFault}
use Rattle.examples.specs.Racks.{Triangle, AllZero, stored_rows}
use Rattle.examples.specs.Plans.{CheckAnswers}
use Rattle.examples.specs.Triangles.{BeginsRound, OneLaneRing}
use Rattle.examples.proofs.Walks.{implied}
use Rattle.examples.proofs.Fine.{all_fine, follow_linked, followed_by}
use Rattle.examples.proofs.Faults.{fine_no_fault}
use Rattle.examples.proofs.Rings.{side, round, Sides, three, turned}
use Rattle.examples.proofs.Triangles.{laid, pair02, flat, pair_in, on_zero, is_zero}

-- how virtual channels follow one another on one lane
one_lane_sides : (r : Rack) (lanes levels : List ℕ) → Triangle r → AllZero lanes → AllZero levels → Sides (IsFollowedBy (stored_rows r CLOCKWISE lanes) levels)
one_lane_sides r lanes levels t zl z =
    let g = stored_rows r CLOCKWISE lanes in
    let all = follow_linked g (laid r t) (on_zero CLOCKWISE) (is_zero r CLOCKWISE lanes t zl) levels (flat r levels z) 5 in
    record {
      entered = λ x y f. ltb-true 0 (side y) (all (λ x y. nat_lt 0 (side y)) refl x y f);
      left = λ x y f. ltb-true (side x) 2 (all (λ x y. nat_lt (side x) 2) refl x y f);
      next = λ x y f a b.
          eqb-true y (round x)
          (implied (side x == 1 && side y == 1) (y == round x) (all (λ x y. not (side x == 1 && side y == 1) || y == round x) refl x y f) (and_from _ _ (eq-eqb (side x) 1 a) (eq-eqb (side y) 1 b)));
    }

-- the three that are a ring
abbrev round_at : ℕ → ℕ
round_at i = 48 + 16 * i

ring_of_three : (r : Rack) (lanes levels : List ℕ) → Triangle r → AllZero lanes → AllZero levels → IsRing (IsFollowedBy (stored_rows r CLOCKWISE lanes) levels) round_at 3
ring_of_three r lanes levels t zl z =
    let g = stored_rows r CLOCKWISE lanes in
    let step = followed_by g (laid r t) (on_zero CLOCKWISE) (is_zero r CLOCKWISE lanes t zl) levels (flat r levels z) in
    let one : IsFollowedBy g levels 48 64 = step 0 2 1 (hop 6 0) (hop 8 0) (pair02 r t) refl refl in
    let two : IsFollowedBy g levels 64 80 = step 1 0 1 (hop 8 0) (hop 10 0) (pair_in r t 1 0 refl refl (omega arith)) refl refl in
    let three : IsFollowedBy g levels 80 48 = step 2 1 1 (hop 10 0) (hop 6 0) (pair_in r t 2 1 refl refl (omega arith)) refl refl in
    record { some = omega arith; steps = steps (IsFollowedBy g levels) one two; closes = three; apart = λ i j _ _ e. omega (arith, e) }
  where
    steps : (f : ℕ → ℕ → Type 0) → f 48 64 → f 64 80 → (i : ℕ) → i + 1 < 3 → f (round_at i) (round_at (i + 1))
    steps f a b zero l = a
    steps f a b (suc zero) l = b
    steps f a b (suc (suc i)) l = absurd (omega arith)

pub one_lane_ring : OneLaneRing
one_lane_ring r lanes levels old new a t zl z h =
    let g = stored_rows r CLOCKWISE lanes in
    let fine_all = all_fine g (laid r t) (on_zero CLOCKWISE) (is_zero r CLOCKWISE lanes t zl) levels (flat r levels z) 5 1 refl in
    by_answer g levels old new a (one_lane_sides r lanes levels t zl z) (ring_of_three r lanes levels t zl z) (fine_no_fault g levels 1 fine_all) h
  where
    by_answer : (g : Routing) (levels : List ℕ) (old new : TablesAt) (a : Result Acceptance CheckFault) → Sides (IsFollowedBy g levels) → IsRing (IsFollowedBy g levels) round_at 3 →
        ((f : CheckFault) → FirstFault g levels 1 f → ⊥) → CheckAnswers g levels 1 old new a → (a ≡ Err (Ring 3)) × BeginsRound 48 64 80 new.ring
    by_answer g levels old new (Ok k) sides ring none h = absurd (h.checked.3.free round_at 3 ring)
    by_answer g levels old new (Err Lanes) sides ring none h = absurd (h.checked.0 h.starts.0)
    by_answer g levels old new (Err Tables) sides ring none h = absurd (h.checked.1 h.starts)
    by_answer g levels old new (Err (Level q)) sides ring none h = absurd (none (Level q) h.checked.1)
    by_answer g levels old new (Err (Walk f)) sides ring none h = absurd (none (Walk f) h.checked.1)
    by_answer g levels old new (Err NoMemory) sides ring none h = absurd (h.room refl)
    by_answer g levels old new (Err (Ring n)) sides ring none h =
        let found = h.checked.3.ring in
        (ap (λ n. Err (Ring n)) (three (IsFollowedBy g levels) sides (slice_index new.ring) n found), turned (IsFollowedBy g levels) sides (slice_index new.ring) n found)
