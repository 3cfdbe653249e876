use Rattle.std.proofs.Common.{length}
use Rattle.checking.specs.Marks.{Adds, ListSays}
use Rattle.checking.proofs.marks.mark_path.Given as goal

abbrev pub invariant-loop-one : goal.invariant-loop-one
invariant-loop-one l =
    (goal.iterator-loop-one).can_next l.one-iterator × (goal.iterator-loop-one).is_finite l.one-iterator
    × Adds (ListSays l.rack l.path (length l.yielded)) l.initial.marks l.marks
