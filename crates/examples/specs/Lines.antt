-- The examples on the line that forwards downhill. Assumes nothing.
-- Of the turns at its switches, those from 8 to 10 and from 10 to 12 are to port 3 of a switch, and those from 11 to 9 and from 13 to 11 to port 2.
use Rattle.std.specs.Prelude.{ℕ, ◌+◌, ◌*◌, List, [], ◌∷◌}
use Rattle.rack.specs.declared.rack.Rack.{Rack}
use Rattle.routing.specs.Sources.{downhill_route}
use Rattle.routing.specs.Turns.{row_start}
use Rattle.builder.specs.Method.{Tables}
use Rattle.examples.specs.Racks.{Line, TrueDistances, AllZero, downhill_two_hop}
use Rattle.examples.specs.Plans.{AcceptedWith}
use Rattle.examples.specs.Builds.{blank_but, BuildsTo}

-- seven entries of the lane table are not 0, at the levels 0 and 1; the pairs 1, 3 and 3, 0 have level 1, and all others level 0
abbrev pub three_lane_tables : Rack → Tables
three_lane_tables r =
    blank_but r
    ((row_start 8 3, 1) ∷ (row_start 10 3, 2) ∷ (row_start 10 3 + 1, 1) ∷ (row_start 11 2, 1) ∷ (row_start 11 2 + 1, 2) ∷ (row_start 13 2, 1) ∷ (row_start 13 2 + 1, 1) ∷ [])
    ((8 * 1 + 3, 1) ∷ (8 * 3 + 0, 1) ∷ [])

-- the builder with three lanes gives these tables
abbrev pub BuiltWithThree : Type 0
BuiltWithThree = (r : Rack) (distances : List ℕ) → Line r → TrueDistances r distances → BuildsTo r (downhill_route r distances) 3 (three_lane_tables r)

-- under the two-hop map the check accepts the plan with two lanes, with greatest rank 4
abbrev pub LineTwoHop : Type 0
LineTwoHop = (r : Rack) (distances levels : List ℕ) → Line r → TrueDistances r distances → AllZero levels → AcceptedWith (downhill_two_hop r distances) levels 2 4
