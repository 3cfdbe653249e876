-- The laws of paths. Assumes nothing.
use Rattle.std.specs.Prelude.{◌≡◌, ℕ, ◌+◌, ◌<◌, ◌≤◌, true, List, length, ◌≢◌, slice_index_or}
use Rattle.rack.specs.Racks.{channel_count, Host}
use Rattle.routing.specs.declared.pair.Pair.{Pair}
use Rattle.routing.specs.declared.fault.WalkFault.{WalkFault}
use Rattle.routing.specs.declared.fault.WalkFault.TheVariants.{NoPair, Endless, NoChannel, Elsewhere, Lane, OtherHost, Memory}
use Rattle.routing.specs.declared.walk.Step.{Step}
use Rattle.routing.specs.Sources.{enters_switch}
use Rattle.routing.specs.Paths.{Routing, Hop, OnPath, EndsAtHop, Delivered}
use Rattle.routing.specs.Walks.{hop_of, Walked, WalkStops}

-- hop i of the path of the pair u, v at level s enters a switch
abbrev pub GoesOn : Routing → ℕ → ℕ → ℕ → ℕ → Type 0
GoesOn g u v s i = (h : Hop) × OnPath g u v s i h × (enters_switch g.rack h.channel ≡ true)

-- as many channels as there are were walked, and the last of them enters a switch
abbrev pub AllWalked : Routing → ℕ → ℕ → ℕ → Type 0
AllWalked g u v s = (i : ℕ) × (i + 1 ≡ channel_count g.rack) × GoesOn g u v s i

-- a path that has not ended after as many channels as there are never ends: every hop of it enters a switch
abbrev pub NeverEnds : Type 0
NeverEnds = (g : Routing) (u v s : ℕ) → Host g.rack u → AllWalked g u v s → (i : ℕ) → GoesOn g u v s i

-- so its packets never arrive
abbrev pub NeverDelivered : Type 0
NeverDelivered = (g : Routing) (u v s : ℕ) → Host g.rack u → Host g.rack v → AllWalked g u v s → Delivered g u v s → ⊥

-- a pair's packets arrive exactly if its path ends at the receiver within as many channels as there are
abbrev pub DeliveredInTime : Type 0
DeliveredInTime =
    (g : Routing) (u v s : ℕ) → Host g.rack u → Host g.rack v
    → (Delivered g u v s → (n : ℕ) × (n < channel_count g.rack) × EndsAtHop g u v s n)
    × (((n : ℕ) × (n < channel_count g.rack) × EndsAtHop g u v s n) → Delivered g u v s)

-- a path that ends at the receiver has no channel twice
abbrev pub NoChannelTwice : Type 0
NoChannelTwice =
    (g : Routing) (u v s n : ℕ) → Host g.rack u → Host g.rack v → EndsAtHop g u v s n
    → (i j : ℕ) (h k : Hop) → i < j → j ≤ n → OnPath g u v s i h → OnPath g u v s j k → h.channel ≢ k.channel

-- the fault is one of the path itself, whatever its lanes are
abbrev pub OfPath : WalkFault → Type 0
OfPath (NoPair q) = ⊥
OfPath (Endless q k) = Unit {0}
OfPath (NoChannel q k) = Unit {0}
OfPath (Elsewhere q k) = Unit {0}
OfPath (Lane q k) = ⊥
OfPath (OtherHost q k) = Unit {0}
OfPath Memory = ⊥

-- where the walk meets such a fault, the pair's packets never arrive
abbrev pub StoppedUndelivered : Type 0
StoppedUndelivered =
    (g : Routing) (lanes : ℕ) (p : Pair) (s room : ℕ) (f : WalkFault)
    → WalkStops g lanes p s room f → OfPath f → Delivered g p.sender.0 p.receiver.0 s → ⊥

-- the walk along a path has one answer: it never both ends and meets a fault, unless memory is wanting
abbrev pub WalkedOrStopped : Type 0
WalkedOrStopped =
    (g : Routing) (lanes : ℕ) (p : Pair) (s room : ℕ) (path : List Step) (f : WalkFault)
    → Walked g lanes p s path → WalkStops g lanes p s room f → f ≡ Memory

-- and it meets one fault, unless memory is wanting
abbrev pub OneFault : Type 0
OneFault =
    (g : Routing) (lanes : ℕ) (p : Pair) (s room room' : ℕ) (f f' : WalkFault)
    → WalkStops g lanes p s room f → WalkStops g lanes p s room' f' → (f ≢ Memory) → (f' ≢ Memory) → f ≡ f'

-- and where it ends, the list is the same each time
abbrev pub OnePath : Type 0
OnePath =
    (g : Routing) (lanes : ℕ) (p : Pair) (s : ℕ) (path path' : List Step) → Walked g lanes p s path → Walked g lanes p s path'
    → (length path ≡ length path') × ((i : ℕ) (d d' : Step) → i < length path → hop_of (slice_index_or path i d) ≡ hop_of (slice_index_or path' i d'))
