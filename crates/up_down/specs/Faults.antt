-- What is told of each refusal of the up-down source: its number and the node that it is about. Assumes nothing.
use Rattle.std.specs.Prelude.{ℕ, Some, None, Option}
use Rattle.up_down.specs.declared.fault.UpDownFault.{UpDownFault}
use Rattle.up_down.specs.declared.fault.UpDownFault.TheVariants.{Root, Unreachable, Memory}

-- what is told of a refusal: its number, if it has one, and the node that it is about, 0 where it is about none
pub record Refusal : Type 0 where
  pub number : Option ℕ
  pub about : ℕ

-- what is told where no source is made: a root that is no switch, or a node out of reach; want of memory has no number
abbrev pub up_down_refusal : UpDownFault → Refusal
up_down_refusal (Root v) = record { number = Some 35; about = v.0 }
up_down_refusal (Unreachable v) = record { number = Some 36; about = v.0 }
up_down_refusal Memory = record { number = None; about = 0 }
