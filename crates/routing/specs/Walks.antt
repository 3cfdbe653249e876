-- What walking a path answers. Assumes nothing.
use Rattle.std.specs.Prelude.{◌≡◌, ℕ, ◌-◌, ◌<◌, ◌≤◌, true, false, List, length, Some, None, Ok, Err, Result, ◌≢◌, slice_index_or}
use Rattle.rack.specs.Racks.{channel_count, head}
use Rattle.routing.specs.declared.pair.Pair.{Pair}
use Rattle.routing.specs.declared.fault.WalkFault.{WalkFault}
use Rattle.routing.specs.declared.fault.WalkFault.TheVariants.{NoPair, Endless, NoChannel, Elsewhere, Lane, OtherHost, Memory}
use Rattle.routing.specs.declared.walk.Step.{Step}
use Rattle.routing.specs.Sources.{enters_switch}
use Rattle.routing.specs.Turns.{turns}
use Rattle.routing.specs.Paths.{Routing, Hop, hop, PairOf, OnPath, EndsAtHop}

-- the hop that a step is
abbrev pub hop_of : Step → Hop
hop_of p = hop p.channel.0 p.lane.number

-- what is answered where hop i of the path of the pair at level s is asked for, behind channel c, with so many lanes
abbrev pub Advances : Routing → ℕ → Pair → ℕ → ℕ → ℕ → Result Step WalkFault → Type 0
Advances g lanes p s c i (Ok h) =
    (g.next c p.receiver.0 ≡ Some h.channel.0) × (turns g.rack c h.channel.0 ≡ true) × (h.lane.number ≡ g.lane c h.channel.0 s) × (h.lane.number < lanes)
Advances g lanes p s c i (Err (NoPair q)) = ⊥
Advances g lanes p s c i (Err (Endless q k)) = ⊥
Advances g lanes p s c i (Err (NoChannel q k)) = (q ≡ p) × (k ≡ i) × (g.next c p.receiver.0 ≡ None)
Advances g lanes p s c i (Err (Elsewhere q k)) = (q ≡ p) × (k ≡ i) × ((d : ℕ) × (g.next c p.receiver.0 ≡ Some d) × (turns g.rack c d ≡ false))
Advances g lanes p s c i (Err (Lane q k)) =
    (q ≡ p) × (k ≡ i) × ((d : ℕ) × (g.next c p.receiver.0 ≡ Some d) × (turns g.rack c d ≡ true) × (lanes ≤ g.lane c d s))
Advances g lanes p s c i (Err (OtherHost q k)) = ⊥
Advances g lanes p s c i (Err Memory) = ⊥

-- hop i of the pair's path is h, and it and those before it, but for the first, are on lanes below the lane count
abbrev pub Reaches : Routing → ℕ → ℕ → ℕ → ℕ → ℕ → Hop → Type 0
Reaches g lanes u v s i h = OnPath g u v s i h × ((j : ℕ) (k : Hop) → 0 < j → j ≤ i → OnPath g u v s j k → k.lane < lanes)

-- the list holds the hops of the pair's path, from the first on
abbrev pub ListsPath : Routing → ℕ → ℕ → ℕ → List Step → Type 0
ListsPath g u v s path = (i : ℕ) (d : Step) → i < length path → OnPath g u v s i (hop_of (slice_index_or path i d))

-- the whole path of the pair at level s was walked, and the list holds it: it ends at the receiver, and its lanes, but for the first, are below the lane count
pub record Walked (g : Routing) (lanes : ℕ) (p : Pair) (s : ℕ) (path : List Step) : Type 0 where
  pub pair : PairOf g.rack p.sender.0 p.receiver.0
  pub some : 0 < length path
  pub short : length path ≤ channel_count g.rack
  pub lists : ListsPath g p.sender.0 p.receiver.0 s path
  pub ends : EndsAtHop g p.sender.0 p.receiver.0 s (length path - 1)
  pub low : (i : ℕ) (h : Hop) → 0 < i → OnPath g p.sender.0 p.receiver.0 s i h → h.lane < lanes

-- hop k, which is not the first, is the one at fault, and those before it are not: hop k - 1 is h, which enters a switch
pub record Stops (g : Routing) (lanes : ℕ) (p q : Pair) (s k : ℕ) (h : Hop) : Type 0 where
  pub told : q ≡ p
  pub pair : PairOf g.rack p.sender.0 p.receiver.0
  pub later : 0 < k
  pub before : Reaches g lanes p.sender.0 p.receiver.0 s (k - 1) h
  pub switch : enters_switch g.rack h.channel ≡ true

-- why the path of a pair at level s was not walked to its end: the first fault in the order of the hops
abbrev pub WalkStops : Routing → ℕ → Pair → ℕ → ℕ → WalkFault → Type 0
WalkStops g lanes p s room (NoPair q) = (q ≡ p) × (PairOf g.rack p.sender.0 p.receiver.0 → ⊥)
WalkStops g lanes p s room (Endless q k) = ((h : Hop) × Stops g lanes p q s k h) × (k ≡ channel_count g.rack)
WalkStops g lanes p s room (NoChannel q k) =
    ((h : Hop) × Stops g lanes p q s k h × (g.next h.channel p.receiver.0 ≡ None)) × (k < channel_count g.rack)
WalkStops g lanes p s room (Elsewhere q k) =
    ((h : Hop) × Stops g lanes p q s k h × ((d : ℕ) × (g.next h.channel p.receiver.0 ≡ Some d) × (turns g.rack h.channel d ≡ false)))
    × (k < channel_count g.rack)
WalkStops g lanes p s room (Lane q k) =
    ((h : Hop) × Stops g lanes p q s k h) × ((h : Hop) × OnPath g p.sender.0 p.receiver.0 s k h × (lanes ≤ h.lane)) × (k < channel_count g.rack)
WalkStops g lanes p s room (OtherHost q k) =
    (q ≡ p) × PairOf g.rack p.sender.0 p.receiver.0 × (k < channel_count g.rack)
    × ((h : Hop) × Reaches g lanes p.sender.0 p.receiver.0 s k h × (enters_switch g.rack h.channel ≡ false) × (head g.rack h.channel ≢ p.receiver.0))
WalkStops g lanes p s room Memory = PairOf g.rack p.sender.0 p.receiver.0 × (room < channel_count g.rack)
