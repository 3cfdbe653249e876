-- What is built and accepted on the triangle. Assumes nothing.
use Rattle.std.proofs.Common.{ℕ, List, [], ◌∷◌, refl, arith}
use Rattle.example_racks.specs.declared.TheConstants.{CLOCKWISE}
use Rattle.routing.specs.Paths.{hop}
use Rattle.routing.specs.Sources.{stored_route}
use Rattle.examples.specs.Racks.{stored_rows, stored_two_hop}
use Rattle.examples.specs.Triangles.{BuiltWithTwo, BuiltAccepted, NotBuiltWithOne, TwoHopAccepted}
use Rattle.examples.proofs.Building.{builds_to, lane_told}
use Rattle.examples.proofs.Tabled.{level_is}
use Rattle.examples.proofs.Ranks.{accepts}
use Rattle.examples.proofs.Triangles.{laid, pair02, flat, raised, is_raised, on_zero, is_alone, written, parted, is_parted}

-- the ranks of the plan that raises the lane once
abbrev ranks_raised : List (ℕ × ℕ)
ranks_raised = (9, 3) ∷ (25, 3) ∷ (41, 3) ∷ (48, 1) ∷ (49, 2) ∷ (64, 1) ∷ (65, 2) ∷ (80, 1) ∷ (81, 2) ∷ []

pub two_hop_accepted : TwoHopAccepted
two_hop_accepted r levels t z =
    accepts (stored_two_hop r CLOCKWISE) (laid r t) raised (is_raised r t) levels (flat r levels z) 2 5 ranks_raised refl refl 3 0 2 (hop 5 1) (pair02 r t) refl refl refl

pub built_with_two : BuiltWithTwo
built_with_two r t = builds_to r (laid r t) (stored_route r CLOCKWISE) (on_zero CLOCKWISE) (is_alone r CLOCKWISE t) 5 2 written [] (omega arith, omega arith) refl

pub not_built_with_one : NotBuiltWithOne
not_built_with_one r t =
    lane_told r (laid r t) (stored_route r CLOCKWISE) (on_zero CLOCKWISE) (is_alone r CLOCKWISE t) 5 1 (omega arith, omega arith) 0 2 (pair02 r t) refl refl (omega arith)

-- the ranks of the plan that is built
abbrev ranks_parted : List (ℕ × ℕ)
ranks_parted = (8, 3) ∷ (24, 3) ∷ (40, 3) ∷ (48, 1) ∷ (49, 2) ∷ (64, 1) ∷ (65, 2) ∷ (80, 1) ∷ (81, 2) ∷ []

pub built_accepted : BuiltAccepted
built_accepted r lanes levels t e =
    let flat = level_is r (laid r t) lanes levels written [] e refl in
    accepts (stored_rows r CLOCKWISE lanes) (laid r t) parted (is_parted r lanes levels t e) levels flat 2 5 ranks_parted refl refl 3 0 2 (hop 5 0) (pair02 r t) refl refl refl
