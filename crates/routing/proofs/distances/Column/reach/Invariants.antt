use Rattle.routing.proofs.Reaching.{Reaching}
use Rattle.routing.proofs.distances.Column.reach.Given as goal

abbrev pub invariant-loop-channel : goal.invariant-loop-channel
invariant-loop-channel l = Reaching l.self.rack.now l.self.target.0 l.fn.node.0 l.distance l.channel-items l.channel-index l.initial.distances l.distances l.found
