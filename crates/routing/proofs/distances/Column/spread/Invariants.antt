use Rattle.std.proofs.Common.{◌≡◌}
use Rattle.std.specs.Iterator.Adapters.{map_source}
use Rattle.rack.specs.Racks.{node_count}
use Rattle.routing.specs.Ways.{Spread}
use Rattle.routing.proofs.distances.Column.spread.Given as goal

abbrev pub invariant-loop-node : goal.invariant-loop-node
invariant-loop-node l =
    let nodes = map_source l.node-iterator in
    (goal.iterator-loop-node).can_next l.node-iterator
    × (goal.iterator-loop-node).is_finite l.node-iterator
    × (nodes.end ≡ node_count l.self.rack.now)
    × Spread l.self.rack.now l.self.target.0 l.distance nodes.start l.initial.distances l.distances l.found
