use Rattle.std.proofs.Common.{◌≡◌, ◌*◌, length}
use Rattle.rack.proofs.Ports.{PortedBelow}
use Rattle.rack.proofs.rack.make.port_channels.Given as goal

abbrev pub invariant-loop-number : goal.invariant-loop-number
invariant-loop-number l = record { long : length l.ports.items ≡ 37 * length l.nodes; placed : PortedBelow l.cables l.ports.items l.number }
