use Rattle.std.proofs.Common.{ap}
use Rattle.rack.specs.declared.numbers.UpTo.{UpTo}
use Rattle.rack.proofs.Same.{same_number}
use Rattle.fabric.specs.Padded.{no_packet}
use Rattle.fabric.proofs.packet.Packet.none.Goals as goal

pub returns : goal.returns
returns c = ap (λ (l : UpTo 15). record no_packet { level = l }) (same_number 15 c.zero.result no_packet.level c.zero.ensures)
