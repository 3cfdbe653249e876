use Rattle.routing.proofs.PairOrder.{AllBefore}
use Rattle.routing.proofs.pairs.Pairs.next_pair.Given as goal

abbrev pub invariant-loop-u : goal.invariant-loop-u
invariant-loop-u l = AllBefore l.fn.self.rack.now l.fn.self.from l.u
