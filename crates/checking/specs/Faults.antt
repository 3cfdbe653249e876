-- What is told of each refusal of the check: its number and its values. Assumes nothing.
use Rattle.std.specs.Prelude.{ℕ, Some, None, Option}
use Rattle.ranking.specs.declared.faults.RankFault.{RankFault}
use Rattle.ranking.specs.declared.faults.RankFault.TheVariants.{Tables as ShortTables, Ring as RingFound}
use Rattle.routing.specs.declared.pair.Pair.{Pair}
use Rattle.routing.specs.declared.fault.WalkFault.{WalkFault}
use Rattle.checking.specs.declared.fault.CheckFault.{CheckFault}
use Rattle.checking.specs.declared.fault.CheckFault.TheVariants.{Lanes, Tables, Level, Walk, Ring, Memory}

-- what is told of a refusal: its number, if it is the check's own and has one, the pair that it is about, if it is about one, or the fault of a walk, handed up as it is
pub record Refusal : Type 0 where
  pub number : Option ℕ
  pub about : Option Pair
  pub walk : Option WalkFault

-- what is told where a plan is refused: a lane count that is not 1 to 8, a table too short, a pair whose level is above 15,
-- the fault of a walk, or a ring; want of memory has no number
abbrev pub check_refusal : CheckFault → Refusal
check_refusal Lanes = record { number = Some 10; about = None; walk = None }
check_refusal Tables = record { number = Some 9; about = None; walk = None }
check_refusal (Level p) = record { number = Some 26; about = Some p; walk = None }
check_refusal (Walk f) = record { number = None; about = None; walk = Some f }
check_refusal (Ring n) = record { number = Some 25; about = None; walk = None }
check_refusal Memory = record { number = None; about = None; walk = None }

-- what the check answers where the ranking refuses: the same, as a refusal of its own
abbrev pub rank_refusal : RankFault → CheckFault
rank_refusal ShortTables = Tables
rank_refusal (RingFound n) = Ring n
