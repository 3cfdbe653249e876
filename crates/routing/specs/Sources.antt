-- What the two forwarding sources over lent tables assign. Assumes nothing.
use Rattle.std.specs.Prelude.{ℕ, zero, suc, ◌+◌, ◌-◌, ◌*◌, Bool, cond, not, ◌&&◌, List, Some, None, Option, ◌==◌, nat_lt, slice_index, slice_index_or}
use Rattle.rack.specs.declared.numbers.Channel.{Channel}
use Rattle.rack.specs.declared.rack.Rack.{Rack}
use Rattle.rack.specs.Racks.{nodes_of, node_count, channel_count, head, tail}

-- the number of a channel, if there is one
abbrev pub numbers : Option Channel → Option ℕ
numbers None = None
numbers (Some c) = Some c.0

-- whether c is a channel that enters a switch
abbrev pub enters_switch : Rack → ℕ → Bool
enters_switch r c = nat_lt c (channel_count r) && slice_index (nodes_of r) (head r c) == 2

-- whether v is a host
abbrev pub is_end : Rack → ℕ → Bool
is_end r v = slice_index (nodes_of r) v == 1

-- what a place of a forwarding table says: 0 is none, else one more than the channel
abbrev pub entry_of : ℕ → Option ℕ
entry_of x = cond (x == 0) None (Some (x - 1))

-- the stored source reads place N w + v of its table, for the switch w that the channel enters and the host v; none elsewhere
abbrev pub stored_route : Rack → List ℕ → ℕ → ℕ → Option ℕ
stored_route r table c v = cond (enters_switch r c && is_end r v) (entry_of (slice_index table (node_count r * head r c + v))) None

-- the distance that a table tells from node w to host v: 255 says that there is no way, as beyond the table
abbrev pub told : Rack → List ℕ → ℕ → ℕ → ℕ
told r table w v = slice_index_or table (node_count r * w + v) 255

-- whether channel d leaves node w and the table tells its head to be one nearer to v
abbrev pub one_nearer : Rack → List ℕ → ℕ → ℕ → ℕ → Bool
one_nearer r table w v d = tail r d == w && told r table (head r d) v + 1 == told r table w v

-- the least of the n numbers from k on that passes
abbrev pub least : (ℕ → Bool) → ℕ → ℕ → Option ℕ
least p k zero = None
least p k (suc n) = cond (p k) (Some k) (least p (k + 1) n)

-- the downhill source answers, behind channel c towards host v, the lowest-numbered channel that leaves the switch and whose head is one nearer; none without a switch, a host or a way
abbrev pub downhill_route : Rack → List ℕ → ℕ → ℕ → Option ℕ
downhill_route r table c v =
    cond (enters_switch r c && (is_end r v && not (told r table (head r c) v == 255))) (least (one_nearer r table (head r c) v) 0 (channel_count r)) None
