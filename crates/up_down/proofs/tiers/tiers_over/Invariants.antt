use Rattle.std.proofs.Common.{◌≡◌}
use Rattle.std.specs.Iterator.Adapters.{map_source}
use Rattle.rack.specs.Racks.{node_count}
use Rattle.up_down.proofs.Tiering.{Tiering}
use Rattle.up_down.proofs.tiers.tiers_over.Given as goal

abbrev pub invariant-loop-node : goal.invariant-loop-node
invariant-loop-node l =
    let nodes = map_source l.node-iterator in
    (goal.iterator-loop-node).can_next l.node-iterator
    × (goal.iterator-loop-node).is_finite l.node-iterator
    × (nodes.end ≡ node_count l.rack)
    × Tiering (node_count l.rack) l.root.0 l.distances.items nodes.start l.tiers.items
