-- Where the virtual channels of a ring are on a rack, and the lines that show them. Assumes nothing.
use Rattle.std.specs.Prelude.{ℕ, ◌/◌, ◌%◌, cond, List, [], ◌∷◌, ◌++◌, Some, None, Option, nat_lt, codes, decimal}
use Rattle.rack.specs.declared.rack.Rack.{Rack}
use Rattle.rack.specs.Network.{tail_end, head_end}
use Rattle.rack.specs.Racks.{cables_of, channel_count}
use Rattle.workbench.specs.declared.ring.Place.{Place}
use Rattle.workbench.specs.declared.ring.Spot.{Spot}

-- virtual channel x is lane x mod 8 of channel x / 8
abbrev pub shown_place : Rack → ℕ → Place
shown_place r x = record {
  channel = x / 8;
  lane = x % 8;
  tail = record { 0 = tail_end (cables_of r) (x / 8) };
  head = record { 0 = head_end (cables_of r) (x / 8) };
}

-- a port, and a virtual channel with both its ends, as bytes
abbrev pub spot_text : Spot → List ℕ
spot_text s = codes "node " ++ (decimal s.0.node.0 ++ (codes " port " ++ decimal s.0.port.0))

abbrev pub place_text : Place → List ℕ
place_text p = codes "channel " ++ (decimal p.channel ++ (codes " lane " ++ (decimal p.lane ++ (codes " from " ++ (spot_text p.tail ++ (codes " to " ++ (spot_text p.head ++ 10 ∷ [])))))))

-- the place of a virtual channel, if the rack has its channel, and its line
abbrev pub place_of : Rack → ℕ → Option Place
place_of r x = cond (nat_lt (x / 8) (channel_count r)) (Some (shown_place r x)) None

-- the line of a place, if there is one
abbrev pub line_of : Option Place → List ℕ
line_of None = []
line_of (Some p) = place_text p

-- the line of a virtual channel: nothing if the rack has no such channel
abbrev pub ring_line : Rack → ℕ → List ℕ
ring_line r x = line_of (place_of r x)
