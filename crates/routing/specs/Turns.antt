-- Turns, their rows in a lane table, and what the lane maps assign. Assumes nothing.
use Rattle.std.specs.Prelude.{◌≡◌, ℕ, ◌+◌, ◌-◌, ◌*◌, ◌<◌, ◌≤◌, min, Bool, cond, ◌&&◌, List, length, ◌==◌, nat_le, nat_lt, slice_index}
use Rattle.rack.specs.declared.rack.Rack.{Rack}
use Rattle.rack.specs.Racks.{nodes_of, channel_count, head, tail, tail_port}
use Rattle.routing.specs.Sources.{enters_switch}

-- the number of the turn from channel c to port p, 1 to 36, of its head: a table with one entry a turn has it there
abbrev pub turn_place : ℕ → ℕ → ℕ
turn_place c p = 36 * c + p - 1

-- how many turns there are on a rack with so many channels
abbrev pub turn_count : ℕ → ℕ
turn_count channels = 36 * channels

-- where the sixteen bytes of a turn begin in the lane table
abbrev pub row_start : ℕ → ℕ → ℕ
row_start c p = 16 * turn_place c p

-- how many bytes the lane table has on a rack with so many channels
abbrev pub lane_bytes : ℕ → ℕ
lane_bytes channels = 16 * turn_count channels

-- whether channel d leaves the switch that channel c enters
abbrev pub turns : Rack → ℕ → ℕ → Bool
turns r c d = enters_switch r c && (nat_lt d (channel_count r) && tail r d == head r c)

-- the two-hop map: lane 1 where the arriving channel leaves a switch, 0 where it leaves a host; 0 for what is no turn
abbrev pub two_hop : Rack → ℕ → ℕ → ℕ → ℕ
two_hop r c d s = cond (turns r c d && slice_index (nodes_of r) (tail r c) == 2) 1 0

-- the byte of level s in the row that begins at a place: above 7 it counts as 7; 0 where the table does not hold the whole row
abbrev pub row_lane : List ℕ → ℕ → ℕ → ℕ
row_lane table at s = cond (nat_le (at + 16) (length table)) (min (slice_index table (at + s)) 7) 0

-- the stored map reads the row of the turn; 0 for what is no turn
abbrev pub stored_lane : Rack → List ℕ → ℕ → ℕ → ℕ → ℕ
stored_lane r table c d s = cond (turns r c d) (row_lane table (row_start c (tail_port r d)) s) 0

-- two turns never share a byte of the lane table
abbrev pub RowsApart : Type 0
RowsApart =
    (b c p q i j : ℕ) → 1 ≤ p → p ≤ 36 → 1 ≤ q → q ≤ 36 → i < 16 → j < 16 → row_start b p + i ≡ row_start c q + j → (b ≡ c) × (p ≡ q) × (i ≡ j)

-- every turn's row lies inside a lane table of the full length
abbrev pub RowsInside : Type 0
RowsInside = (channels c p : ℕ) → c < channels → 1 ≤ p → p ≤ 36 → row_start c p + 16 ≤ lane_bytes channels
