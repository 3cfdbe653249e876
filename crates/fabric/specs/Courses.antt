-- What holds after any course of calls under a sound plan. Assumes nothing.
use Rattle.std.specs.Prelude.{All, ◌≡◌, ℕ, zero, suc, ◌+◌, ◌<◌, Bool, ◌&&◌, ◌⊎◌, ◌↔◌, List, [], ◌∷◌, ◌++◌, map, length, take, Some, None, Ok, sum_by, filter, Option, ◌==◌, nat_eq, slice_index}
use Rattle.rack.specs.declared.rack.Rack.{Rack}
use Rattle.rack.specs.Racks.{channel_count, tail}
use Rattle.routing.specs.declared.pair.Pair.{Pair}
use Rattle.routing.specs.Sources.{least}
use Rattle.routing.specs.Paths.{Routing, Hop, hop_at}
use Rattle.checking.specs.Plans.{virtual, Sound}
use Rattle.courses.specs.Queues.{Queues, at, Event, refused, admitted, forwarded, taken}
use Rattle.courses.specs.Law.{hops, entered, left, moves, waiting}
use Rattle.fabric.specs.declared.packet.Packet.{Packet}
use Rattle.fabric.specs.declared.packet.Delivery.{Delivery}
use Rattle.fabric.specs.declared.call.Call.{Call}
use Rattle.fabric.specs.declared.call.Call.TheVariants.{Admit, Forward, Take}
use Rattle.fabric.specs.declared.call.Done.TheVariants.{Admitted, Forwarded, Taken}
use Rattle.fabric.specs.Packets.{delivery}
use Rattle.fabric.specs.Calls.{Setup, queue_count, Ready, NothingWaits, level_for, PairHere, CanForward, CanTake, Answer, Acts}

-- any calls one after another, with their answers
pub data Performs (s : Setup) : Queues Packet → List Call → List Answer → Queues Packet → Type 0 where
  done : {qs : Queues Packet} → Performs s qs [] [] qs
  then : {qs qs' qs'' : Queues Packet} {c : Call} {a : Answer} {cs : List Call} {as' : List Answer} → Acts s qs c a qs' → Performs s qs' cs as' qs'' → Performs s qs (c ∷ cs) (a ∷ as') qs''

-- what came of a call
abbrev pub event : Call → Answer → Event Delivery
event (Admit p t) (Ok Admitted) = admitted (record { pair = p; tag = t })
event (Forward x) (Ok (Forwarded c l)) = forwarded
event (Take x) (Ok (Taken d)) = taken d
event _ _ = refused

-- what came of each call of a list, in its order, as far as there are answers
abbrev pub events : List Call → List Answer → List (Event Delivery)
events [] as' = []
events (c ∷ cs) [] = []
events (c ∷ cs) (a ∷ as') = event c a ∷ events cs as'

-- the virtual channel of a hop, and then the list; nothing where there is no hop
abbrev pub then_on : Option Hop → List ℕ → List ℕ
then_on None xs = []
then_on (Some h) xs = virtual h ∷ xs

-- of the path that begins on channel c and goes to host v at level s: the virtual channels of hop i and of those behind it, n at most, until the path has ended
abbrev pub hops_on : Routing → ℕ → ℕ → ℕ → ℕ → ℕ → List ℕ
hops_on g c v s i zero = []
hops_on g c v s i (suc n) = then_on (hop_at g c v s i) (hops_on g c v s (suc i) n)

-- the channel out of node u: the lowest that leaves it; a host has one
abbrev pub channel_out : Rack → ℕ → Option ℕ
channel_out r u = least (λ c. nat_eq (tail r c) u) 0 (channel_count r)

-- the path of a pair that begins on that channel, as the numbers of its virtual channels; nothing where there is no channel
abbrev pub path_from : Setup → Pair → Option ℕ → List ℕ
path_from s p None = []
path_from s p (Some c) = hops_on s.routes c p.receiver.0 (level_for s p) 0 (channel_count s.routes.rack)

-- the path of a pair, as the numbers of its virtual channels; a path that ends has no more channels than the rack
abbrev pub path : Setup → Pair → List ℕ
path s p = path_from s p (channel_out s.routes.rack p.sender.0)

-- the path of the pair that a packet is of
abbrev pub path_of : Setup → Delivery → List ℕ
path_of s d = path s d.pair

-- the packet waits where it should: it is of two different hosts, at the level of that pair, and its hop is the place of queue x on its path
pub record InPlace (s : Setup) (x : ℕ) (p : Packet) : Type 0 where
  pub pair : PairHere s p.pair
  pub level : p.level.number ≡ level_for s p.pair
  pub on_path : p.hop < length (path s p.pair)
  pub place : slice_index (path s p.pair) p.hop ≡ x

-- every packet that waits does so in its place
abbrev pub AllInPlace : Setup → Queues Packet → Type 0
AllInPlace s qs = (x : ℕ) → x < queue_count s → All (InPlace s x) (at qs x)

-- who waits in each queue of the rack, the first to leave first
abbrev pub standing : Setup → Queues Packet → Queues Delivery
standing s qs = map (map delivery) (take (queue_count s) qs)

-- the hops ahead of all that wait: as many for each packet as its path has channels, less its place
abbrev pub hops_ahead : Setup → Queues Packet → ℕ
hops_ahead s qs = hops (path_of s) (standing s qs)

-- a packet waits
abbrev pub Waits : Setup → Queues Packet → Type 0
Waits s qs = (x : ℕ) × (p : Packet) × (rest : List Packet) × (x < queue_count s) × (at qs x ≡ p ∷ rest)

-- some forward or some take would be accepted
abbrev pub Stirs : Setup → Queues Packet → Type 0
Stirs s qs =
    ((x : ℕ) × (p : Packet) × (rest : List Packet) × (h : Hop) × CanForward s qs x p rest h)
    ⊎ ((x : ℕ) × (p : Packet) × (rest : List Packet) × CanTake s qs x p rest)

-- whether a packet is of sender u and receiver v
abbrev pub of_pair : ℕ → ℕ → Delivery → Bool
of_pair u v d = d.pair.sender.0 == u && d.pair.receiver.0 == v

-- the tags of a pair's packets
abbrev pub tags : ℕ → ℕ → List Delivery → List ℕ
tags u v ds = map (λ d. d.tag) (filter (of_pair u v) ds)

-- the tags of a pair that wait on a path, read from its last queue to its first, each from its first packet
abbrev pub waiting_tags : Setup → Pair → Queues Packet → List ℕ
waiting_tags s p qs = map (λ d. d.tag) (waiting (of_pair p.sender.0 p.receiver.0) (path s p) (standing s qs))

-- the tags of the packets of the pair p
abbrev pub pair_tags : Pair → List Delivery → List ℕ
pair_tags p ds = tags p.sender.0 p.receiver.0 ds

-- what holds of a course: of the queues before it, what came of its calls, and the queues after it
pub record Lawful (s : Setup) (before : Queues Packet) (es : List (Event Delivery)) (after : Queues Packet) : Type 0 where
  -- nothing waits off its path, and each packet's hop is its place there
  pub placed : AllInPlace s after
  -- while a packet waits, some forward or take would be accepted
  pub moving : Waits s after → Stirs s after
  -- accepted forwards and takes, and the hops still ahead, are the hops ahead before and those of the packets admitted
  pub counted : moves es + hops_ahead s after ≡ hops_ahead s before + sum_by (λ d. length (path_of s d)) (entered es)
  -- no hop is ahead exactly if nothing waits
  pub settled : NothingWaits s.routes.rack after ↔ (hops_ahead s after ≡ 0)
  -- if none was admitted, nothing waits exactly if as many forwards and takes were accepted as hops were ahead
  pub drained : entered es ≡ [] → NothingWaits s.routes.rack after ↔ (moves es ≡ hops_ahead s before)
  -- of each pair, what waited and what was admitted, in that order, is what was taken and then what waits
  pub ordered : (p : Pair) → waiting_tags s p before ++ pair_tags p (entered es) ≡ pair_tags p (left es) ++ waiting_tags s p after

-- the same from a fabric that was just opened: only what was admitted counts
pub record LawfulFromEmpty (s : Setup) (es : List (Event Delivery)) (after : Queues Packet) : Type 0 where
  pub placed : AllInPlace s after
  pub moving : Waits s after → Stirs s after
  pub counted : moves es + hops_ahead s after ≡ sum_by (λ d. length (path_of s d)) (entered es)
  pub settled : NothingWaits s.routes.rack after ↔ (hops_ahead s after ≡ 0)
  pub ordered : (p : Pair) → pair_tags p (entered es) ≡ pair_tags p (left es) ++ waiting_tags s p after

-- the plan is one that the check accepts: its lane count and tables are in order, and it is sound
pub record AcceptedPlan (s : Setup) (qs : Queues Packet) : Type 0 where
  pub ready : Ready s qs
  pub sound : Sound s.routes s.levels s.lanes

-- the law of courses, from any queues in which every packet is in its place; those of an opened fabric are such
pub record KeepsLaw (s : Setup) (before : Queues Packet) (calls : List Call) (answers : List Answer) (after : Queues Packet) : Type 0 where
  pub performed : Performs s before calls answers after
  pub lawful : AcceptedPlan s before → AllInPlace s before → Lawful s before (events calls answers) after
  pub from_empty : AcceptedPlan s before → NothingWaits s.routes.rack before → LawfulFromEmpty s (events calls answers) after
