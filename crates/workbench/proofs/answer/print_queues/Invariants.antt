use Rattle.std.proofs.Common.{◌≡◌, ◌++◌, string_bytes}
use Rattle.workbench.specs.Courses.{queues_text}
use Rattle.workbench.proofs.answer.print_queues.Given as goal

abbrev pub invariant-loop-number : goal.invariant-loop-number
invariant-loop-number l = string_bytes l.out ≡ string_bytes l.initial.out ++ queues_text l.queues l.number
