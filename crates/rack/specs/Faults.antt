-- What is told of each refusal: its layer, its number and its values. Assumes nothing.
use Rattle.std.specs.Prelude.{ℕ, Some, None, Option}
use Rattle.rack.specs.declared.fault.RackFault.{RackFault}
use Rattle.rack.specs.declared.fault.RackFault.TheVariants.{Tables, Memory}

-- what refuses: the reading of a file, or the making of a rack from tables
pub data Layer : Type 0 where
  file : Layer
  rack : Layer

-- what is told of a refusal: the layer that refuses, its number if it has one, and the record or the host that it is about, 0 where it is about none
pub record Refusal : Type 0 where
  pub layer : Layer
  pub number : Option ℕ
  pub about : ℕ

-- what is told where a rack is refused: tables that no file gives; want of memory has no number
abbrev pub rack_refusal : RackFault → Refusal
rack_refusal Tables = record { layer = rack; number = Some 13; about = 0 }
rack_refusal Memory = record { layer = rack; number = None; about = 0 }
