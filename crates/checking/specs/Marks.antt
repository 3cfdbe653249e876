-- What the check keeps true of its marks: for the proofs, not for the reader. Assumes nothing.
use Rattle.std.specs.Prelude.{◌≡◌, ℕ, suc, ◌+◌, ◌*◌, ◌<◌, true, ◌⊎◌, ◌↔◌, List, length, Ok, Err, Result, slice_index, slice_index_or}
use Rattle.rack.specs.declared.rack.Rack.{Rack}
use Rattle.rack.specs.Racks.{channel_count, tail_port}
use Rattle.routing.specs.declared.walk.Step.{Step}
use Rattle.routing.specs.Turns.{turn_place, turn_count}
use Rattle.routing.specs.Paths.{Routing, Hop, PairOf}
use Rattle.routing.specs.Walks.{hop_of}
use Rattle.checking.specs.Words.{bit, FollowedBy}
use Rattle.checking.specs.declared.fault.CheckFault.{CheckFault}
use Rattle.checking.specs.declared.fault.CheckFault.TheVariants.{Lanes, Tables, Level, Walk, Ring, Memory}
use Rattle.checking.specs.declared.acceptance.Acceptance.{Acceptance}
use Rattle.ranking.specs.Graphs.{Ranked, Ringed}
use Rattle.checking.specs.Plans.{On, AllFine}

-- exactly the bits of M were added
abbrev pub Adds : (ℕ → ℕ → Type 0) → List ℕ → List ℕ → Type 0
Adds M before after = (k b : ℕ) → (bit (slice_index after k) b ≡ true ↔ ((bit (slice_index before k) b ≡ true) ⊎ M k b))

-- bit b of place k says that hop h is followed by hop o
abbrev pub Says : Rack → Hop → Hop → ℕ → ℕ → Type 0
Says r h o k b = (k ≡ turn_place h.channel (tail_port r o.channel)) × (b ≡ 8 * h.lane + o.lane)

-- some hop of the list, below n, and the next
abbrev pub ListSays : Rack → List Step → ℕ → ℕ → ℕ → Type 0
ListSays r path n k b = (i : ℕ) × (i < n) × ((d : Step) → Says r (hop_of (slice_index_or path i d)) (hop_of (slice_index_or path (i + 1) d)) k b)

-- some hop of the pair's path, and the next
abbrev pub PairSays : Routing → List ℕ → ℕ → ℕ → ℕ → ℕ → Type 0
PairSays g levels u v k b = (i : ℕ) × (h : Hop) × (o : Hop) × On g levels u v i h × On g levels u v (suc i) o × Says g.rack h o k b

-- some hop of the path of some pair, and the next
abbrev pub AllSay : Routing → List ℕ → ℕ → ℕ → Type 0
AllSay g levels k b = (u : ℕ) × (v : ℕ) × PairOf g.rack u v × PairSays g levels u v k b

-- every pair is fine, and the marks are those of all pairs
abbrev pub Collected : Routing → List ℕ → ℕ → List ℕ → Type 0
Collected g levels lanes marks =
    AllFine g levels lanes × (length marks ≡ turn_count (channel_count g.rack)) × ((k b : ℕ) → (bit (slice_index marks k) b ≡ true ↔ AllSay g levels k b))

-- what ranking the virtual channels answers, as the table tells them
abbrev pub Settled : Rack → List ℕ → List ℕ → List ℕ → List ℕ → List ℕ → Result Acceptance CheckFault → Type 0
Settled r table s t u v (Ok a) = Ranked (FollowedBy r table) (8 * channel_count r) a.greatest s t × (v ≡ u)
Settled r table s t u v (Err (Ring n)) = Ringed (FollowedBy r table) (8 * channel_count r) n s t u v
Settled r table s t u v (Err Lanes) = ⊥
Settled r table s t u v (Err Tables) = ⊥
Settled r table s t u v (Err (Level p)) = ⊥
Settled r table s t u v (Err (Walk f)) = ⊥
Settled r table s t u v (Err Memory) = ⊥
