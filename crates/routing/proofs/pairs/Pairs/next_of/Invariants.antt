use Rattle.std.proofs.Common.{ℕ, ◌<◌}
use Rattle.routing.specs.Paths.{PairOf}
use Rattle.routing.specs.Pairs.{pair_place}
use Rattle.routing.proofs.pairs.Pairs.next_of.Given as goal

abbrev pub invariant-loop-v : goal.invariant-loop-v
invariant-loop-v l = (w : ℕ) → w < l.v → PairOf l.fn.self.rack.now l.fn.sender.0 w → pair_place l.fn.self.rack.now l.fn.sender.0 w < l.fn.self.from
