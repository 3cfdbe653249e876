-- Packets. Assumes nothing.
use Rattle.std.specs.Prelude.{ℕ, ◌+◌, min}
use Rattle.fabric.specs.declared.packet.Packet.{Packet}
use Rattle.fabric.specs.declared.packet.Delivery.{Delivery}

-- the hop after hop i; it stops at 65,535
abbrev pub next_hop : ℕ → ℕ
next_hop i = min (i + 1) 65535

-- a packet one hop further on
abbrev pub moved : Packet → Packet
moved p = record { pair = p.pair; level = p.level; hop = next_hop p.hop; tag = p.tag }

-- what is told of a packet that is taken
abbrev pub delivery : Packet → Delivery
delivery p = record { pair = p.pair; tag = p.tag }
