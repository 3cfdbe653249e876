-- The lane table of the two-hop map. Assumes nothing.
use Rattle.std.specs.Prelude.{◌≡◌, ℕ, ◌+◌, ◌*◌, ◌<◌, cond, List, ◌&&◌, ◌==◌, nat_lt, slice_index}
use Rattle.rack.specs.declared.rack.Rack.{Rack}
use Rattle.rack.specs.Racks.{nodes_of, channel_count, tail}
use Rattle.routing.specs.Turns.{stored_lane, two_hop}

-- the lane behind channel c
abbrev pub lane_of : Rack → ℕ → ℕ
lane_of r c = cond (nat_lt c (channel_count r) && slice_index (nodes_of r) (tail r c) == 2) 1 0

-- all bytes of a channel, at every port and level, are the lane behind it
abbrev pub FilledRows : Rack → List ℕ → Type 0
FilledRows r lanes = (c j : ℕ) → c < channel_count r → j < 576 → slice_index lanes (576 * c + j) ≡ lane_of r c

-- at every level the table has the lanes of the two-hop map
abbrev pub HoldsTwoHop : Rack → List ℕ → Type 0
HoldsTwoHop r lanes = (c d s : ℕ) → s < 16 → stored_lane r lanes c d s ≡ two_hop r c d s
