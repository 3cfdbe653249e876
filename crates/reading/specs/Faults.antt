-- What is told of each refusal of a file: its number and its values. Assumes nothing.
use Rattle.std.specs.Prelude.{ℕ, Some}
use Rattle.rack.specs.Faults.{Refusal, file}
use Rattle.reading.specs.declared.fault.Rule.{Rule}
use Rattle.reading.specs.declared.fault.Rule.TheVariants.{Form, Many, Number, End, Taken, Forwarding}
use Rattle.reading.specs.declared.fault.FileFault.{FileFault}
use Rattle.reading.specs.declared.fault.FileFault.TheVariants.{Tables as Short, Length, Record as Broken, Uncabled as Bare}

-- the number of the refusal of a record, by the rule that it breaks
abbrev pub rule_number : Rule → ℕ
rule_number Form = 2
rule_number Many = 3
rule_number Number = 4
rule_number End = 5
rule_number Taken = 6
rule_number Forwarding = 8

-- what is told where a file is refused: tables too short, a length that is no multiple of 8, a record with its rule, or a host without a cable
abbrev pub file_refusal : FileFault → Refusal
file_refusal Short = record { layer = file; number = Some 9; about = 0 }
file_refusal Length = record { layer = file; number = Some 1; about = 0 }
file_refusal (Broken i rule) = record { layer = file; number = Some (rule_number rule); about = i }
file_refusal (Bare host) = record { layer = file; number = Some 7; about = host }
