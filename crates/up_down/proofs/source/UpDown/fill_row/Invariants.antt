use Rattle.std.proofs.Common.{◌≡◌}
use Rattle.std.specs.Iterator.Adapters.{map_source}
use Rattle.rack.specs.Racks.{node_count}
use Rattle.up_down.proofs.Filling.{Filling}
use Rattle.up_down.proofs.source.UpDown.fill_row.Given as goal

abbrev pub invariant-loop-receiver : goal.invariant-loop-receiver
invariant-loop-receiver l =
    let hosts = map_source l.receiver-iterator in
    (goal.iterator-loop-receiver).can_next l.receiver-iterator
    × (goal.iterator-loop-receiver).is_finite l.receiver-iterator
    × (hosts.end ≡ node_count l.initial.self.rack.now)
    × Filling l.down l.fn.node.0 hosts.start l.initial.self l.self
