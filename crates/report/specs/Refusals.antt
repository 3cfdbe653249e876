-- What is told of each refusal, by the numbers of the layer that refuses. Assumes nothing.
use Rattle.std.specs.Prelude.{ℕ, Some, None, Option}
use Rattle.rack.specs.Faults.{rack_refusal}
use Rattle.reading.specs.Faults.{file_refusal}
use Rattle.routing.specs.declared.pair.Pair.{Pair}
use Rattle.routing.specs.declared.fault.WalkFault.{WalkFault}
use Rattle.routing.specs.Faults.{walk_refusal, distance_refusal}
use Rattle.builder.specs.Faults.{build_refusal}
use Rattle.checking.specs.Faults.{check_refusal}
use Rattle.planning.specs.declared.fault.PlanFault.{PlanFault}
use Rattle.planning.specs.declared.fault.PlanFault.TheVariants.{Build as Unbuilt, Check as Unchecked}
use Rattle.report.specs.declared.refusal.Refusal.{Refusal}
use Rattle.report.specs.declared.refusal.Refusal.TheVariants.{File, Rack, Distance, Build, Check, Memory}
use Rattle.report.specs.declared.refusal.Told.{Told}

-- a number alone
abbrev pub plainly : ℕ → Told
plainly n = record { number = n; sender = 0; receiver = 0; hop = 0 }

-- a number, and the record that it is about
abbrev pub of_record : ℕ → ℕ → Told
of_record n about = record { number = n; sender = about; receiver = 0; hop = 0 }

-- a number, and the pair and the hop that it is about
abbrev pub of_hop : ℕ → Pair → ℕ → Told
of_hop n p k = record { number = n; sender = p.sender.0; receiver = p.receiver.0; hop = k }

-- what is told of a record: nothing without a number
abbrev pub of_file : Option ℕ → ℕ → Option Told
of_file None about = None
of_file (Some n) about = Some (of_record n about)

-- what is told of a pair at a hop: nothing without a number; without a pair the number alone
abbrev pub of_pair : Option ℕ → Option Pair → ℕ → Option Told
of_pair None about k = None
of_pair (Some n) None k = Some (plainly n)
of_pair (Some n) (Some p) k = Some (of_hop n p k)

-- what is told of the fault of a walk
abbrev pub of_walk : WalkFault → Option Told
of_walk f = of_pair (walk_refusal f).number (walk_refusal f).pair (walk_refusal f).hop

-- what is told by a layer's own number and the pair that it is about; or of the fault of a walk that it hands up
abbrev pub of_parts : Option ℕ → Option Pair → Option WalkFault → Option Told
of_parts (Some n) about w = of_pair (Some n) about 0
of_parts None about None = None
of_parts None about (Some f) = of_walk f

-- what is told of a refusal; nothing where memory was wanting, which is no refusal
abbrev pub told : Refusal → Option Told
told (File f) = of_file (file_refusal f).number (file_refusal f).about
told (Rack f) = of_pair (rack_refusal f).number None 0
told (Distance f) = of_pair (distance_refusal f).number (distance_refusal f).pair (distance_refusal f).hop
told (Build f) = of_parts (build_refusal f).number (build_refusal f).about (build_refusal f).walk
told (Check f) = of_parts (check_refusal f).number (check_refusal f).about (check_refusal f).walk
told Memory = None

-- the fault of the builder or of the check, as it is handed up
abbrev pub of_plan : PlanFault → Refusal
of_plan (Unbuilt f) = Build f
of_plan (Unchecked f) = Check f
