-- The examples on the triangle that forwards clockwise. Assumes nothing.
-- Its channels 6, 8 and 10 go round its switches; the turns from 6 to 8 and from 8 to 10 are to port 3 of a switch, and that from 10 to 6 is to port 2.
use Rattle.std.specs.Prelude.{◌≡◌, ℕ, ◌⊎◌, List, [], ◌∷◌, Err, Result, slice_index, slice_set}
use Rattle.rack.specs.declared.rack.Rack.{Rack}
use Rattle.example_racks.specs.declared.TheConstants.{CLOCKWISE}
use Rattle.routing.specs.declared.fault.WalkFault.{WalkFault}
use Rattle.routing.specs.declared.fault.WalkFault.TheVariants.{NoChannel, Endless, Lane}
use Rattle.routing.specs.Sources.{stored_route}
use Rattle.routing.specs.Turns.{row_start}
use Rattle.checking.specs.declared.acceptance.Acceptance.{Acceptance}
use Rattle.checking.specs.declared.fault.CheckFault.{CheckFault}
use Rattle.checking.specs.declared.fault.CheckFault.TheVariants.{Walk, Ring}
use Rattle.checking.specs.Answers.{TablesAt}
use Rattle.builder.specs.declared.fault.BuildFault.TheVariants.{Lane as NoLane, Walk as NoWalk}
use Rattle.builder.specs.Method.{Tables, tables}
use Rattle.routing.specs.Plans.{OneToEight}
use Rattle.builder.specs.Outcomes.{needed}
use Rattle.examples.specs.Racks.{Triangle, AllZero, pair_of, stored_rows, stored_two_hop}
use Rattle.examples.specs.Plans.{CheckAnswers, AcceptedWith, RefusedWith, WalkTells}
use Rattle.examples.specs.Builds.{blank_but, BuildsTo, NotBuilt}

-- the table begins with the three numbers, from one of them on round
abbrev pub BeginsRound : ℕ → ℕ → ℕ → List ℕ → Type 0
BeginsRound x y z table =
    ((slice_index table 0 ≡ x) × (slice_index table 1 ≡ y) × (slice_index table 2 ≡ z))
    ⊎ ((slice_index table 0 ≡ y) × (slice_index table 1 ≡ z) × (slice_index table 2 ≡ x))
    ⊎ ((slice_index table 0 ≡ z) × (slice_index table 1 ≡ x) × (slice_index table 2 ≡ y))

-- on one lane the check refuses the plan, with a ring of three: lane 0 of the channels 6, 8 and 10
abbrev pub OneLaneRing : Type 0
OneLaneRing =
    (r : Rack) (lanes levels : List ℕ) (before after : TablesAt) (a : Result Acceptance CheckFault) → Triangle r → AllZero lanes → AllZero levels →
    CheckAnswers (stored_rows r CLOCKWISE lanes) levels 1 before after a → (a ≡ Err (Ring 3)) × BeginsRound 48 64 80 after.ring

-- lane 1 at level 0 for the turns from 6 to 8, from 8 to 10 and from 10 to 6, and level 0 for every pair
abbrev pub two_lane_tables : Rack → Tables
two_lane_tables r = blank_but r ((row_start 6 3, 1) ∷ (row_start 8 3, 1) ∷ (row_start 10 2, 1) ∷ []) []

-- the builder with two lanes gives these tables
abbrev pub BuiltWithTwo : Type 0
BuiltWithTwo = (r : Rack) → Triangle r → BuildsTo r (stored_route r CLOCKWISE) 2 (two_lane_tables r)

-- and the check accepts that plan, with greatest rank 3
abbrev pub BuiltAccepted : Type 0
BuiltAccepted = (r : Rack) (lanes levels : List ℕ) → Triangle r → needed r (tables lanes levels) ≡ two_lane_tables r → AcceptedWith (stored_rows r CLOCKWISE lanes) levels 2 3

-- with one lane the builder has none for the path from 0 to 2
abbrev pub NotBuiltWithOne : Type 0
NotBuiltWithOne = (r : Rack) → Triangle r → NotBuilt r (stored_route r CLOCKWISE) 1 (NoLane (pair_of 0 2))

-- under the two-hop map the check accepts the plan with two lanes, with greatest rank 3
abbrev pub TwoHopAccepted : Type 0
TwoHopAccepted = (r : Rack) (levels : List ℕ) → Triangle r → AllZero levels → AcceptedWith (stored_two_hop r CLOCKWISE) levels 2 3

-- with one lane it refuses it: the path from 0 to 1 takes lane 1 at hop 2
abbrev pub TwoHopOneLane : Type 0
TwoHopOneLane =
    (r : Rack) (levels : List ℕ) → Triangle r → AllZero levels →
    WalkTells (stored_two_hop r CLOCKWISE) 1 (pair_of 0 1) 0 (Lane (pair_of 0 1) 2) × RefusedWith (stored_two_hop r CLOCKWISE) levels 1 (Walk (Lane (pair_of 0 1) 2))

-- with another entry at one place the walk from 0 to 2 on lane 0 tells the fault, and so do the check and the builder, whatever the lane count
abbrev pub ChangedTells : ℕ → ℕ → WalkFault → Type 0
ChangedTells place entry f =
    (r : Rack) (lanes levels : List ℕ) (count : ℕ) → Triangle r → AllZero lanes → AllZero levels → OneToEight count →
    WalkTells (stored_rows r (slice_set CLOCKWISE place entry) lanes) count (pair_of 0 2) 0 f
    × RefusedWith (stored_rows r (slice_set CLOCKWISE place entry) lanes) levels count (Walk f)
    × NotBuilt r (stored_route r (slice_set CLOCKWISE place entry)) count (NoWalk f)

-- 3 has no entry for host 2, at place 20: the path from 0 to 2 has no channel for hop 1
abbrev pub NoEntry : Type 0
NoEntry = ChangedTells 20 0 (NoChannel (pair_of 0 2) 1)

-- 4 sends what is for host 2 back to 3, by channel 7: the path from 0 to 2 does not end within the 12 channels of the rack
abbrev pub SentBack : Type 0
SentBack = ChangedTells 26 8 (Endless (pair_of 0 2) 12)
