-- What is told of each refusal of the builder: its number and its values. Assumes nothing.
use Rattle.std.specs.Prelude.{ℕ, Some, None, Option}
use Rattle.routing.specs.declared.pair.Pair.{Pair}
use Rattle.routing.specs.declared.fault.WalkFault.{WalkFault}
use Rattle.builder.specs.declared.fault.BuildFault.{BuildFault}
use Rattle.builder.specs.declared.fault.BuildFault.TheVariants.{Lanes, Tables, Walk, Lane, Level, Memory}

-- what is told of a refusal: its number, if it is the builder's own and has one, the pair that it is about, if it is about one, or the fault of a walk, handed up as it is
pub record Refusal : Type 0 where
  pub number : Option ℕ
  pub about : Option Pair
  pub walk : Option WalkFault

-- what is told where no plan is built: a lane count that is not 1 to 8, a table too short, the fault of a walk,
-- a path that needs more lanes than there are, or one that no level has room for; want of memory has no number
abbrev pub build_refusal : BuildFault → Refusal
build_refusal Lanes = record { number = Some 10; about = None; walk = None }
build_refusal Tables = record { number = Some 9; about = None; walk = None }
build_refusal (Walk f) = record { number = None; about = None; walk = Some f }
build_refusal (Lane p) = record { number = Some 11; about = Some p; walk = None }
build_refusal (Level p) = record { number = Some 12; about = Some p; walk = None }
build_refusal Memory = record { number = None; about = None; walk = None }
