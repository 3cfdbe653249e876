-- What each call on the fabric does to the queues, and when it is refused. Assumes nothing.
use Rattle.std.specs.Prelude.{◌≡◌, ℕ, ◌*◌, ◌/◌, ◌<◌, ◌≤◌, true, false, List, [], ◌∷◌, length, take, drop, Some, Option, Ok, Err, Result, sum_by, ◌≢◌, slice_set}
use Rattle.rack.specs.declared.rack.Rack.{Rack}
use Rattle.rack.specs.Racks.{node_count, channel_count, head, Leaving}
use Rattle.routing.specs.declared.pair.Pair.{Pair}
use Rattle.routing.specs.declared.plan.Plan.{Plan}
use Rattle.routing.specs.Sources.{enters_switch}
use Rattle.routing.specs.Turns.{turns}
use Rattle.routing.specs.Paths.{Routing, Hop, hop, PairOf}
use Rattle.routing.specs.Walks.{Advances}
use Rattle.routing.specs.Plans.{OneToEight, routing_of}
use Rattle.checking.specs.Plans.{level_at, virtual}
use Rattle.courses.specs.Queues.{Queues, at, push}
use Rattle.fabric.specs.declared.packet.Packet.{Packet}
use Rattle.fabric.specs.declared.packet.Delivery.{Delivery}
use Rattle.fabric.specs.declared.call.Call.{Call}
use Rattle.fabric.specs.declared.call.Call.TheVariants.{Admit, Forward, Take}
use Rattle.fabric.specs.declared.call.Done.{Done}
use Rattle.fabric.specs.declared.call.Done.TheVariants.{Admitted, Forwarded, Taken}
use Rattle.fabric.specs.declared.fault.FabricFault.{FabricFault}
use Rattle.fabric.specs.declared.fault.FabricFault.TheVariants.{Lanes, Depth, Tables, NoPair, Level, NoQueue, Empty, Misplaced, Walk, Full}
use Rattle.fabric.specs.Packets.{next_hop, moved, delivery}

-- what a call goes by besides the queues: the plan (rack, source and map, path table, lane count) and the depth of the fabric
pub record Setup : Type 0 where
  pub routes : Routing
  pub levels : List ℕ
  pub lanes : ℕ
  pub depth : ℕ

-- a routing, a path table, a lane count and a depth, put together
abbrev pub setup : Routing → List ℕ → ℕ → ℕ → Setup
setup g levels lanes depth = record { routes = g; levels = levels; lanes = lanes; depth = depth }

-- the same, from the plan itself, with what its source names and its map says
abbrev pub setup_of : {S M : Type 0} → (S → ℕ → ℕ → Option ℕ) → (M → ℕ → ℕ → ℕ → ℕ) → Plan S M → ℕ → Setup
setup_of route lanes plan depth = setup (routing_of route lanes plan) plan.levels.now plan.lanes depth

-- how many queues there are: one for each virtual channel
abbrev pub queue_count : Setup → ℕ
queue_count s = 8 * channel_count s.routes.rack

-- how many packets may wait in a queue of channel c
abbrev pub room : Setup → ℕ → ℕ
room s c = s.depth

-- the path table and the queues have the places needed
abbrev pub Enough : Rack → ℕ → ℕ → Type 0
Enough r levels queues = (node_count r * node_count r ≤ levels) × (8 * channel_count r ≤ queues)

-- the path table of a setup and its queues have the places needed
abbrev pub EnoughFor : Setup → Queues Packet → Type 0
EnoughFor s qs = Enough s.routes.rack (length s.levels) (length qs)

-- a call can start
abbrev pub Ready : Setup → Queues Packet → Type 0
Ready s qs = OneToEight s.lanes × EnoughFor s qs

-- why none can start: the lane count is out of range; else a table is too short
abbrev pub NotReady : ℕ → Type 0 → FabricFault → Type 0
NotReady lanes enough Lanes = OneToEight lanes → ⊥
NotReady lanes enough Tables = OneToEight lanes × (enough → ⊥)
NotReady lanes enough _ = ⊥

-- `Enough` of a plan and a count of queues: its path table is long enough, and there are queues enough
abbrev pub Fits : {S M : Type 0} → Plan S M → ℕ → Type 0
Fits plan queues = Enough plan.rack.now (length plan.levels.now) queues

-- `Ready` of a plan and a count of queues: a call can start
abbrev pub CanStart : {S M : Type 0} → Plan S M → ℕ → Type 0
CanStart plan queues = OneToEight plan.lanes × Fits plan queues

-- `NotReady` of a plan and a count of queues: why no call can start
abbrev pub CannotStart : {S M : Type 0} → Plan S M → ℕ → FabricFault → Type 0
CannotStart plan queues f = NotReady plan.lanes (Fits plan queues) f

-- why a fabric is not opened: the depth is out of range; else no call could start
abbrev pub OpenRefused : ℕ → ℕ → Type 0 → FabricFault → Type 0
OpenRefused depth lanes enough Lanes = OneToEight depth × NotReady lanes enough Lanes
OpenRefused depth lanes enough Depth = OneToEight depth → ⊥
OpenRefused depth lanes enough Tables = OneToEight depth × NotReady lanes enough Tables
OpenRefused depth lanes enough _ = ⊥

-- `OpenRefused` of a depth, a plan and a count of queues: why no fabric is opened
abbrev pub CannotOpen : {S M : Type 0} → ℕ → Plan S M → ℕ → FabricFault → Type 0
CannotOpen depth plan queues f = OpenRefused depth plan.lanes (Fits plan queues) f

-- nothing waits in any queue of the rack
abbrev pub NothingWaits : Rack → Queues Packet → Type 0
NothingWaits r qs = (x : ℕ) → x < 8 * channel_count r → at qs x ≡ []

-- the queues of the rack were emptied, and those beyond are as they were
pub record Emptied (r : Rack) (before after : Queues Packet) : Type 0 where
  pub long : length after ≡ length before
  pub none : NothingWaits r after
  pub beyond : drop (8 * channel_count r) after ≡ drop (8 * channel_count r) before

-- how many packets wait in the queues of the rack
abbrev pub waiting_count : Rack → Queues Packet → ℕ
waiting_count r qs = sum_by length (take (8 * channel_count r) qs)

-- the level of a pair, in the path table
abbrev pub level_for : Setup → Pair → ℕ
level_for s p = level_at s.routes.rack s.levels p.sender.0 p.receiver.0

-- the pair is two different hosts of the rack
abbrev pub PairHere : Setup → Pair → Type 0
PairHere s p = PairOf s.routes.rack p.sender.0 p.receiver.0

-- the pair is two different hosts, channel c leaves its sender, and its level is that of the path table
abbrev pub Entrance : Rack → List ℕ → Pair → ℕ → ℕ → Type 0
Entrance r levels p c l = PairOf r p.sender.0 p.receiver.0 × Leaving r p.sender.0 c × (l ≡ level_at r levels p.sender.0 p.receiver.0)

-- why a pair's packets cannot come in: it is no pair; else its level is above 15
abbrev pub NoEntrance : Rack → List ℕ → Pair → FabricFault → Type 0
NoEntrance r levels p (NoPair q) = (q ≡ p) × (PairOf r p.sender.0 p.receiver.0 → ⊥)
NoEntrance r levels p (Level q) = (q ≡ p) × PairOf r p.sender.0 p.receiver.0 × (15 < level_at r levels p.sender.0 p.receiver.0)
NoEntrance r levels p _ = ⊥

-- a packet of the pair comes last in lane 0 of the channel out of its sender, where there is room
pub record Admits (s : Setup) (before : Queues Packet) (p : Pair) (t : ℕ) (after : Queues Packet) : Type 0 where
  pub ready : Ready s before
  pub pair : PairHere s p
  pub out : ℕ
  pub leaves : Leaving s.routes.rack p.sender.0 out
  pub fits : length (at before (8 * out)) < room s out
  pub packet : Packet
  pub its_pair : packet.pair ≡ p
  pub its_level : packet.level.number ≡ level_for s p
  pub its_hop : packet.hop ≡ 0
  pub its_tag : packet.tag ≡ t
  pub pushed : after ≡ push before (8 * out) packet

-- why a packet is not admitted, in the order of the questions
abbrev pub AdmitRefused : Setup → Queues Packet → Pair → FabricFault → Type 0
AdmitRefused s qs p Lanes = NotReady s.lanes (EnoughFor s qs) Lanes
AdmitRefused s qs p Tables = NotReady s.lanes (EnoughFor s qs) Tables
AdmitRefused s qs p (NoPair q) = Ready s qs × NoEntrance s.routes.rack s.levels p (NoPair q)
AdmitRefused s qs p (Level q) = Ready s qs × NoEntrance s.routes.rack s.levels p (Level q)
AdmitRefused s qs p (Full q i) =
    Ready s qs × (q ≡ p) × (i ≡ 0) × PairHere s p × (level_for s p ≤ 15)
    × ((c : ℕ) × Leaving s.routes.rack p.sender.0 c × (room s c ≤ length (at qs (8 * c))))
AdmitRefused s qs p _ = ⊥

-- the packet waits first in queue x, before the rest
abbrev pub First : Setup → Queues Packet → ℕ → Packet → List Packet → Type 0
First s qs x p rest = Ready s qs × (x < queue_count s) × (at qs x ≡ p ∷ rest)

-- why no packet is first in queue x, in the order of the questions
abbrev pub NoneFirst : Setup → Queues Packet → ℕ → FabricFault → Type 0
NoneFirst s qs x Lanes = NotReady s.lanes (EnoughFor s qs) Lanes
NoneFirst s qs x Tables = NotReady s.lanes (EnoughFor s qs) Tables
NoneFirst s qs x NoQueue = Ready s qs × (queue_count s ≤ x)
NoneFirst s qs x Empty = Ready s qs × (x < queue_count s) × (at qs x ≡ [])
NoneFirst s qs x _ = ⊥

-- the channel of queue x enters a switch, and behind it the source names the channel of the hop, which leaves that switch, and the map its lane, which is below the lane count
abbrev pub GoesOn : Setup → ℕ → Packet → Hop → Type 0
GoesOn s x p h =
    (enters_switch s.routes.rack (x / 8) ≡ true)
    × (s.routes.next (x / 8) p.pair.receiver.0 ≡ Some h.channel) × (turns s.routes.rack (x / 8) h.channel ≡ true)
    × (h.lane ≡ s.routes.lane (x / 8) h.channel p.level.number) × (h.lane < s.lanes)

-- why the packet cannot go on from queue x: the channel enters a host; else what is wrong with the next hop
abbrev pub NoWayOn : Setup → ℕ → Packet → FabricFault → Type 0
NoWayOn s x p (Misplaced q i) = (q ≡ p.pair) × (i ≡ p.hop) × (enters_switch s.routes.rack (x / 8) ≡ false)
NoWayOn s x p (Walk f) =
    (enters_switch s.routes.rack (x / 8) ≡ true) × Advances s.routes s.lanes p.pair p.level.number (x / 8) (next_hop p.hop) (Err f)
NoWayOn s x p _ = ⊥

-- the first packet of queue x can go on to the queue of the hop, which has room
pub record CanForward (s : Setup) (qs : Queues Packet) (x : ℕ) (p : Packet) (rest : List Packet) (h : Hop) : Type 0 where
  pub first : First s qs x p rest
  pub goes : GoesOn s x p h
  pub fits : length (at qs (virtual h)) < room s h.channel

-- the first packet of queue x goes on to the queue of the hop, which has room, and comes last there, one hop further on
pub record Forwards (s : Setup) (before : Queues Packet) (x : ℕ) (h : Hop) (after : Queues Packet) : Type 0 where
  pub packet : Packet
  pub rest : List Packet
  pub can : CanForward s before x packet rest h
  pub pushed : after ≡ push (slice_set before x rest) (virtual h) (moved packet)

-- why nothing is forwarded, in the order of the questions
abbrev pub ForwardRefused : Setup → Queues Packet → ℕ → FabricFault → Type 0
ForwardRefused s qs x Lanes = NoneFirst s qs x Lanes
ForwardRefused s qs x Tables = NoneFirst s qs x Tables
ForwardRefused s qs x NoQueue = NoneFirst s qs x NoQueue
ForwardRefused s qs x Empty = NoneFirst s qs x Empty
ForwardRefused s qs x (Misplaced q i) = (p : Packet) × (rest : List Packet) × First s qs x p rest × NoWayOn s x p (Misplaced q i)
ForwardRefused s qs x (Walk f) = (p : Packet) × (rest : List Packet) × First s qs x p rest × NoWayOn s x p (Walk f)
ForwardRefused s qs x (Full q i) =
    (p : Packet) × (rest : List Packet) × (h : Hop) × First s qs x p rest × GoesOn s x p h
    × (q ≡ p.pair) × (i ≡ next_hop p.hop) × (room s h.channel ≤ length (at qs (virtual h)))
ForwardRefused s qs x _ = ⊥

-- the first packet of queue x is at its receiver
pub record CanTake (s : Setup) (qs : Queues Packet) (x : ℕ) (p : Packet) (rest : List Packet) : Type 0 where
  pub first : First s qs x p rest
  pub home : head s.routes.rack (x / 8) ≡ p.pair.receiver.0

-- the first packet of queue x, which is at its receiver, leaves the queues, and d is what is told of it
pub record Takes (s : Setup) (before : Queues Packet) (x : ℕ) (d : Delivery) (after : Queues Packet) : Type 0 where
  pub packet : Packet
  pub rest : List Packet
  pub can : CanTake s before x packet rest
  pub told : d ≡ delivery packet
  pub left : after ≡ slice_set before x rest

-- why nothing is taken, in the order of the questions
abbrev pub TakeRefused : Setup → Queues Packet → ℕ → FabricFault → Type 0
TakeRefused s qs x Lanes = NoneFirst s qs x Lanes
TakeRefused s qs x Tables = NoneFirst s qs x Tables
TakeRefused s qs x NoQueue = NoneFirst s qs x NoQueue
TakeRefused s qs x Empty = NoneFirst s qs x Empty
TakeRefused s qs x (Misplaced q i) =
    (p : Packet) × (rest : List Packet) × First s qs x p rest × (q ≡ p.pair) × (i ≡ p.hop) × (head s.routes.rack (x / 8) ≢ p.pair.receiver.0)
TakeRefused s qs x _ = ⊥

-- what is answered to a call
abbrev pub Answer : Type 0
Answer = Result Done FabricFault

-- a call, its answer, and the queues before and after it: a refusal leaves them as they were
abbrev pub Acts : Setup → Queues Packet → Call → Answer → Queues Packet → Type 0
Acts s before (Admit p t) (Ok Admitted) after = Admits s before p t after
Acts s before (Admit p t) (Err f) after = (after ≡ before) × AdmitRefused s before p f
Acts s before (Forward x) (Ok (Forwarded c l)) after = Forwards s before x.0 (hop c.0 l.number) after
Acts s before (Forward x) (Err f) after = (after ≡ before) × ForwardRefused s before x.0 f
Acts s before (Take x) (Ok (Taken d)) after = Takes s before x.0 d after
Acts s before (Take x) (Err f) after = (after ≡ before) × TakeRefused s before x.0 f
Acts s before _ (Ok _) after = ⊥
