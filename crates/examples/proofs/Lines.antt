-- The examples on the line. Assumes nothing.
use Rattle.std.proofs.Common.{ℕ, ◌+◌, ◌*◌, List, [], ◌∷◌, slice_index, refl, ap, arith}
use Rattle.rack.specs.declared.rack.Rack.{Rack}
use Rattle.example_racks.specs.Tables.{line_nodes, line_cables}
use Rattle.routing.specs.Sources.{downhill_route}
use Rattle.routing.specs.Turns.{row_start}
use Rattle.routing.specs.Paths.{hop, PairOf}
use Rattle.builder.specs.Method.{alone}
use Rattle.examples.specs.Racks.{Line, TrueDistances, downhill_two_hop}
use Rattle.examples.specs.Lines.{BuiltWithThree, LineTwoHop}
use Rattle.examples.proofs.Nets.{Net, IsNet, enters_at, turns_at, two_hop_at, enters_same, turns_same, two_hop_same}
use Rattle.examples.proofs.Fine.{Laid}
use Rattle.examples.proofs.Nearer.{down_at, down_same}
use Rattle.examples.proofs.Building.{builds_to}
use Rattle.examples.proofs.Ranks.{accepts}

abbrev line_net : (ℕ → ℕ → ℕ) → Net
line_net lane = record { enters = enters_at line_nodes line_cables; turning = turns_at line_nodes line_cables; next = down_at; lane = lane }

abbrev laid : (r : Rack) → Line r → Laid r
laid r t = record { nodes = line_nodes; cables = line_cables; hosts = 4; same_nodes = t.0; same_cables = t.1; first = refl }

abbrev raised : Net
raised = line_net (two_hop_at line_nodes line_cables)

is_raised : (r : Rack) (distances : List ℕ) → Line r → TrueDistances r distances → IsNet (downhill_two_hop r distances) 0 raised
is_raised r distances t d =
    record {
      enters = enters_same r line_nodes line_cables t.0 t.1;
      turning = turns_same r line_nodes line_cables t.0 t.1;
      next = down_same r t distances d;
      lane = λ c d _. two_hop_same r line_nodes line_cables t.0 t.1 c d 0;
    }

is_alone : (r : Rack) (distances : List ℕ) → Line r → TrueDistances r distances → IsNet (alone r (downhill_route r distances)) 0 (line_net (λ _ _. 0))
is_alone r distances t d =
    record {
      enters = enters_same r line_nodes line_cables t.0 t.1;
      turning = turns_same r line_nodes line_cables t.0 t.1;
      next = down_same r t distances d;
      lane = λ c d _. refl;
    }

-- the tables that are built
abbrev written : List (ℕ × ℕ)
written =
    (row_start 8 3, 1) ∷ (row_start 10 3, 2) ∷ (row_start 10 3 + 1, 1) ∷ (row_start 11 2, 1) ∷ (row_start 11 2 + 1, 2) ∷ (row_start 13 2, 1) ∷ (row_start 13 2 + 1, 1) ∷ []

abbrev levels_written : List (ℕ × ℕ)
levels_written = (8 * 1 + 3, 1) ∷ (8 * 3 + 0, 1) ∷ []

pub built_with_three : BuiltWithThree
built_with_three r distances t d = builds_to r (laid r t) (downhill_route r distances) (line_net (λ _ _. 0)) (is_alone r distances t d) 6 3 written levels_written (omega arith, omega arith) refl

-- the ranks of the plan that raises the lane once
abbrev ranks_raised : List (ℕ × ℕ)
ranks_raised =
    (9, 4) ∷ (25, 4) ∷ (41, 4) ∷ (57, 4) ∷ (64, 1) ∷ (72, 1) ∷ (73, 3) ∷ (80, 1) ∷ (81, 2) ∷ (88, 1) ∷ (89, 2) ∷ (96, 1) ∷ (97, 3) ∷ (104, 1) ∷ []

pub line_two_hop : LineTwoHop
line_two_hop r distances levels t d z =
    let pair : PairOf r 0 3 = (ap (λ xs. slice_index xs 0) t.0, ap (λ xs. slice_index xs 3) t.0, omega arith) in
    accepts (downhill_two_hop r distances) (laid r t) raised (is_raised r distances t d) levels (λ u v _. z _) 2 6 ranks_raised refl refl 4 0 3 (hop 7 1) pair refl refl refl
