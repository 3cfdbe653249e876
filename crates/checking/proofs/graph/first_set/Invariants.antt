use Rattle.std.specs.List.{All}
use Rattle.checking.proofs.Scans.{Clear}
use Rattle.checking.proofs.graph.first_set.Given as goal

abbrev pub invariant-loop-channel : goal.invariant-loop-channel
invariant-loop-channel g l =
    (goal.iterator-loop-channel g).can_next l.channel-iterator × (goal.iterator-loop-channel g).is_finite l.channel-iterator
    × All (Clear (goal.F-post g l.word) l.from l.first l.step) l.yielded
