-- The worked examples. Assumes nothing.
use Rattle.std.specs.Prelude.{◌≡◌, Some}
use Rattle.routing.specs.Faults.{walk_refusal}
use Rattle.routing.specs.declared.fault.WalkFault.TheVariants.{NoChannel, Endless, Lane}
use Rattle.checking.specs.Faults.{check_refusal}
use Rattle.checking.specs.declared.fault.CheckFault.TheVariants.{Ring}
use Rattle.builder.specs.Faults.{build_refusal}
use Rattle.builder.specs.declared.fault.BuildFault.TheVariants.{Lane as NoLane}
use Rattle.fabric.specs.Faults.{fabric_refusal}
use Rattle.fabric.specs.declared.fault.FabricFault.TheVariants.{Full}
use Rattle.examples.specs.Racks.{pair_of}
use Rattle.examples.specs.Triangles.{OneLaneRing, BuiltWithTwo, BuiltAccepted, NotBuiltWithOne, TwoHopAccepted, TwoHopOneLane, NoEntry, SentBack}
use Rattle.examples.specs.Lines.{BuiltWithThree, LineTwoHop}
use Rattle.examples.specs.Passages.{Passage}

-- the numbers of these refusals: 25 a ring, 11 too few lanes, 24 a lane above the count, 20 no channel, 23 no end, 33 a full queue
abbrev pub Numbers : Type 0
Numbers =
    ((check_refusal (Ring 3)).number ≡ Some 25)
    × ((build_refusal (NoLane (pair_of 0 2))).number ≡ Some 11)
    × ((walk_refusal (Lane (pair_of 0 1) 2)).number ≡ Some 24)
    × ((walk_refusal (NoChannel (pair_of 0 2) 1)).number ≡ Some 20)
    × ((walk_refusal (Endless (pair_of 0 2) 12)).number ≡ Some 23)
    × ((fabric_refusal (Full (pair_of 0 1) 0)).number ≡ Some 33)

-- what the calls answer on the triangle and on the line
pub record WorkedExamples : Type 0 where
  -- the triangle on one lane has a ring
  pub one_lane_ring : OneLaneRing
  -- two lanes part it: the builder gives the tables, and the check accepts them
  pub built_with_two : BuiltWithTwo
  pub built_accepted : BuiltAccepted
  -- one lane is too few for the builder
  pub not_built_with_one : NotBuiltWithOne
  -- the two-hop map needs two lanes, and they suffice
  pub two_hop_accepted : TwoHopAccepted
  pub two_hop_one_lane : TwoHopOneLane
  -- a missing entry is told
  pub no_entry : NoEntry
  -- an endless path is told
  pub sent_back : SentBack
  -- the line needs two levels
  pub built_with_three : BuiltWithThree
  -- under the two-hop map two lanes suffice on it too
  pub line_two_hop : LineTwoHop
  -- one packet goes through the triangle
  pub passage : Passage
  -- the refusals have these numbers
  pub numbers : Numbers
