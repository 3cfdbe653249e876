-- Dependency words, and the graphs that a dependency table tells. Assumes nothing.
use Rattle.std.specs.Prelude.{◌≡◌, ℕ, ◌+◌, ◌*◌, ◌/◌, ◌%◌, ◌^◌, ◌<◌, Bool, true, cond, List, ◌==◌, ◌≢◌, slice_index}
use Rattle.rack.specs.declared.rack.Rack.{Rack}
use Rattle.rack.specs.Racks.{channel_count, head, tail, tail_port}
use Rattle.routing.specs.Turns.{turns, turn_place}

-- bit k of x
abbrev pub bit : ℕ → ℕ → Bool
bit x k = x / 2 ^ k % 2 == 1

-- the word of the turn from channel c to channel d; 0 for what is no turn, or lies beyond the table
abbrev pub word_of : Rack → List ℕ → ℕ → ℕ → ℕ
word_of r table c d = cond (turns r c d) (slice_index table (turn_place c (tail_port r d))) 0

-- virtual channel x, lane x mod 8 of channel x / 8, is followed by y, as the table tells
abbrev pub FollowedBy : Rack → List ℕ → ℕ → ℕ → Type 0
FollowedBy r table x y =
    (x < 8 * channel_count r) × (y < 8 * channel_count r) × (bit (word_of r table (x / 8) (y / 8)) (8 * (x % 8) + y % 8) ≡ true)

-- channel c is followed by channel d, on whatever lanes: d leaves the node that c enters, and the table has a word there that is not 0
abbrev pub ChannelFollowedBy : Rack → List ℕ → ℕ → ℕ → Type 0
ChannelFollowedBy r table c d =
    (c < channel_count r) × (d < channel_count r) × (tail r d ≡ head r c) × (slice_index table (turn_place c (tail_port r d)) ≢ 0)
