-- What is told of each refusal: its layer, its number and its values. Assumes nothing.
use Rattle.std.specs.Prelude.{ℕ, Some, None, Option}
use Rattle.routing.specs.declared.pair.Pair.{Pair}
use Rattle.routing.specs.declared.fault.WalkFault.{WalkFault}
use Rattle.routing.specs.declared.fault.WalkFault.TheVariants.{NoPair, Endless, NoChannel, Elsewhere, Lane, OtherHost, Memory}
use Rattle.routing.specs.declared.fault.DistanceFault.{DistanceFault}
use Rattle.routing.specs.declared.fault.DistanceFault.TheVariants.{Tables}

-- what refuses: the walk along a path, or the filling of a distance table
pub data Layer : Type 0 where
  walking : Layer
  filling : Layer

-- what is told of a refusal: the layer that refuses, its number if it has one, the pair whose path it is about, if any, and the hop, 0 where it is about none
pub record Refusal : Type 0 where
  pub layer : Layer
  pub number : Option ℕ
  pub pair : Option Pair
  pub hop : ℕ

-- what is told where the path of a pair is refused: no two different hosts, a path that never ends, no channel named, what is no channel out of the switch,
-- a lane that is not below the lane count, or another host at the end; want of memory has no number
abbrev pub walk_refusal : WalkFault → Refusal
walk_refusal (NoPair p) = record { layer = walking; number = Some 30; pair = Some p; hop = 0 }
walk_refusal (Endless p k) = record { layer = walking; number = Some 23; pair = Some p; hop = k }
walk_refusal (NoChannel p k) = record { layer = walking; number = Some 20; pair = Some p; hop = k }
walk_refusal (Elsewhere p k) = record { layer = walking; number = Some 21; pair = Some p; hop = k }
walk_refusal (Lane p k) = record { layer = walking; number = Some 24; pair = Some p; hop = k }
walk_refusal (OtherHost p k) = record { layer = walking; number = Some 22; pair = Some p; hop = k }
walk_refusal Memory = record { layer = walking; number = None; pair = None; hop = 0 }

-- what is told where a distance table is refused: it is too short
abbrev pub distance_refusal : DistanceFault → Refusal
distance_refusal Tables = record { layer = filling; number = Some 9; pair = None; hop = 0 }
