use Rattle.ranking.specs.Workings.{Gathered}
use Rattle.ranking.proofs.rings.gather.Given as goal

abbrev pub invariant-loop-z : goal.invariant-loop-z
invariant-loop-z l = Gathered l.z l.span.lo l.span.hi l.ranks l.initial.ring l.ring
