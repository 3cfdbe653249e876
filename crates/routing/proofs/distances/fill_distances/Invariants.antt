use Rattle.std.proofs.Common.{◌≡◌}
use Rattle.std.specs.Iterator.Adapters.{map_source}
use Rattle.rack.specs.Racks.{node_count}
use Rattle.routing.proofs.Filled.{Filling}
use Rattle.routing.proofs.distances.fill_distances.Given as goal

abbrev pub invariant-loop-host : goal.invariant-loop-host
invariant-loop-host l =
    let hosts = map_source l.host-iterator in
    (goal.iterator-loop-host).can_next l.host-iterator
    × (goal.iterator-loop-host).is_finite l.host-iterator
    × (hosts.end ≡ node_count l.rack)
    × Filling l.rack hosts.start l.initial.distances l.distances
