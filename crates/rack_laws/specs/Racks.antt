-- The laws of the channels of a rack. Assumes nothing.
use Rattle.std.specs.Prelude.{◌≡◌, ℕ, ◌<◌}
use Rattle.rack.specs.declared.rack.Rack.{Rack}
use Rattle.rack.specs.Racks.{channel_count, tail, tail_port, head, head_port, back}

-- a channel's way back is a channel, whose way back it is, and leaves where the channel enters and enters where it leaves
abbrev pub WaysBack : Type 0
WaysBack =
    (r : Rack) (c : ℕ) → c < channel_count r →
    (back c < channel_count r) × (back (back c) ≡ c)
    × (tail r (back c) ≡ head r c) × (tail_port r (back c) ≡ head_port r c)
    × (head r (back c) ≡ tail r c) × (head_port r (back c) ≡ tail_port r c)
