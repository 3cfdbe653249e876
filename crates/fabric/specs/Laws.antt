-- The laws of calls. Assumes nothing.
use Rattle.std.specs.Prelude.{◌≡◌, ℕ, ◌<◌, ◌≤◌, ◌↔◌, List, length, Ok, slice_index}
use Rattle.rack.specs.declared.numbers.Channel.{Channel}
use Rattle.rack.specs.declared.numbers.UpTo.{UpTo}
use Rattle.rack.specs.Racks.{channel_count}
use Rattle.routing.specs.declared.pair.Pair.{Pair}
use Rattle.routing.specs.Paths.{Hop, hop}
use Rattle.checking.specs.Plans.{virtual, On}
use Rattle.courses.specs.Queues.{Queues}
use Rattle.fabric.specs.declared.packet.Packet.{Packet}
use Rattle.fabric.specs.declared.packet.VirtualChannel.{VirtualChannel}
use Rattle.fabric.specs.declared.call.Call.{Call}
use Rattle.fabric.specs.declared.call.Call.TheVariants.{Forward, Take}
use Rattle.fabric.specs.declared.call.Done.TheVariants.{Forwarded, Taken}
use Rattle.fabric.specs.Packets.{delivery}
use Rattle.fabric.specs.Calls.{Setup, PairHere, CanForward, CanTake, Answer, Acts}
use Rattle.fabric.specs.Courses.{Performs, path, KeepsLaw}

-- a call has one answer, and leaves the packets in one way
abbrev pub OneAnswer : Type 0
OneAnswer =
    (s : Setup) (qs qs' qs'' : Queues Packet) (c : Call) (a b : Answer) → Acts s qs c a qs' → Acts s qs c b qs'' → (a ≡ b) × (qs' ≡ qs'')

-- the list of the pair's path has virtual channel x at place i
abbrev pub HopListed : Setup → Pair → ℕ → ℕ → Type 0
HopListed s p i x = (i < length (path s p)) × (slice_index (path s p) i ≡ x)

-- the list has at place i just what hop i of the path is on, as far as there are channels in the rack
abbrev pub PathListed : Type 0
PathListed =
    (s : Setup) (p : Pair) (i x : ℕ) → PairHere s p → i < channel_count s.routes.rack →
    HopListed s p i x ↔ ((h : Hop) × On s.routes s.levels p.sender.0 p.receiver.0 i h × (virtual h ≡ x))

-- any calls one after another, whoever makes them, keep the law of courses
abbrev pub CallsKeepLaw : Type 0
CallsKeepLaw =
    (s : Setup) (before after : Queues Packet) (calls : List Call) (answers : List Answer) → 1 ≤ s.depth → Performs s before calls answers after → KeepsLaw s before calls answers after

-- a forward that can be made is accepted, and answers the channel and the lane of that hop
abbrev pub ForwardAccepted : Type 0
ForwardAccepted =
    (s : Setup) (qs after : Queues Packet) (x : VirtualChannel) (p : Packet) (rest : List Packet) (h : Hop) (a : Answer) → CanForward s qs x.0 p rest h → Acts s qs (Forward x) a after →
    (c : Channel) × (l : UpTo 7) × (a ≡ Ok (Forwarded c l)) × (hop c.0 l.number ≡ h)

-- a take that can be made is accepted, and answers that packet
abbrev pub TakeAccepted : Type 0
TakeAccepted =
    (s : Setup) (qs after : Queues Packet) (x : VirtualChannel) (p : Packet) (rest : List Packet) (a : Answer) → CanTake s qs x.0 p rest → Acts s qs (Take x) a after → a ≡ Ok (Taken (delivery p))
