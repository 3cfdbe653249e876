-- What is told of each refusal of the fabric: its number and its values. Assumes nothing.
use Rattle.std.specs.Prelude.{ℕ, Some, None, Option}
use Rattle.routing.specs.declared.pair.Pair.{Pair}
use Rattle.routing.specs.declared.fault.WalkFault.{WalkFault}
use Rattle.fabric.specs.declared.fault.FabricFault.{FabricFault}
use Rattle.fabric.specs.declared.fault.FabricFault.TheVariants.{Lanes, Depth, Tables, NoPair, Level, NoQueue, Empty, Misplaced, Walk, Full}

-- what is told of a refusal: its number, if it is the fabric's own, the pair and the hop that it is about, 0 for no hop, or the fault of a walk, handed up as it is
pub record Refusal : Type 0 where
  pub number : Option ℕ
  pub about : Option Pair
  pub hop : ℕ
  pub walk : Option WalkFault

-- what is told where the fabric refuses: a lane count or a depth that is not 1 to 8, a table too short, a pair that is not two different hosts or whose level is above 15,
-- no such queue, an empty one, a packet in the wrong place for the call, the fault of a walk, or a full queue
abbrev pub fabric_refusal : FabricFault → Refusal
fabric_refusal Lanes = record { number = Some 10; about = None; hop = 0; walk = None }
fabric_refusal Depth = record { number = Some 10; about = None; hop = 0; walk = None }
fabric_refusal Tables = record { number = Some 9; about = None; hop = 0; walk = None }
fabric_refusal (NoPair p) = record { number = Some 30; about = Some p; hop = 0; walk = None }
fabric_refusal (Level p) = record { number = Some 26; about = Some p; hop = 0; walk = None }
fabric_refusal NoQueue = record { number = Some 31; about = None; hop = 0; walk = None }
fabric_refusal Empty = record { number = Some 32; about = None; hop = 0; walk = None }
fabric_refusal (Misplaced p i) = record { number = Some 34; about = Some p; hop = i; walk = None }
fabric_refusal (Walk f) = record { number = None; about = None; hop = 0; walk = Some f }
fabric_refusal (Full p i) = record { number = Some 33; about = Some p; hop = i; walk = None }
