use Rattle.rack.specs.Racks.{node_count}
use Rattle.routing.specs.Ways.{Beside}
use Rattle.routing.proofs.Nearness.{Settled}
use Rattle.routing.proofs.distances.Column.fill.Given as goal

abbrev pub invariant-loop-distance : goal.invariant-loop-distance
invariant-loop-distance l =
    Settled l.self.rack.now l.self.target.0 l.distance l.distances × Beside (node_count l.self.rack.now) l.self.target.0 l.fn.distances l.distances
