-- The path of a pair, for every assignment of channels and lanes. Assumes nothing.
use Rattle.std.specs.Prelude.{◌≡◌, ℕ, zero, suc, ◌<◌, cond, Some, None, Option, ◌≢◌}
use Rattle.rack.specs.declared.rack.Rack.{Rack}
use Rattle.rack.specs.Racks.{channel_count, head, Host, Leaving}
use Rattle.routing.specs.Sources.{enters_switch}
use Rattle.routing.specs.Turns.{turns}

-- one lane of one channel
pub record Hop : Type 0 where
  pub channel : ℕ
  pub lane : ℕ

-- lane q of channel c, as a hop
abbrev pub hop : ℕ → ℕ → Hop
hop c q = record { channel = c; lane = q }

-- two different hosts
abbrev pub PairOf : Rack → ℕ → ℕ → Type 0
PairOf r u v = Host r u × Host r v × (u ≢ v)

-- what decides a path: the rack; `next c v` is what the source names behind channel c towards host v; `lane c d s` is the map's lane from channel c to channel d at level s
pub record Routing : Type 0 where
  pub rack : Rack
  pub next : ℕ → ℕ → Option ℕ
  pub lane : ℕ → ℕ → ℕ → ℕ

-- a rack, what a source names and the lanes of a map, put together
abbrev pub routing : Rack → (ℕ → ℕ → Option ℕ) → (ℕ → ℕ → ℕ → ℕ) → Routing
routing r next lane = record { rack = r; next = next; lane = lane }

-- the hop that the source and the map name behind channel c, towards host v at level s: none unless a channel is named that leaves the switch that c enters
abbrev pub named : Routing → ℕ → ℕ → ℕ → Option ℕ → Option Hop
named g v s c None = None
named g v s c (Some d) = cond (turns g.rack c d) (Some (hop d (g.lane c d s))) None

-- the hop behind a hop, towards host v at level s: where that hop enters a switch, the one that is named behind its channel; else none
abbrev pub behind : Routing → ℕ → ℕ → Option Hop → Option Hop
behind g v s None = None
behind g v s (Some h) = cond (enters_switch g.rack h.channel) (named g v s h.channel (g.next h.channel v)) None

-- hop i of the path that begins on lane 0 of channel c and goes to host v at level s; none once the path has ended
abbrev pub hop_at : Routing → ℕ → ℕ → ℕ → ℕ → Option Hop
hop_at g c v s zero = Some (hop c 0)
hop_at g c v s (suc i) = behind g v s (hop_at g c v s i)

-- hop i of the path of the pair u, v at level s is h: the path begins on the channel out of u
abbrev pub OnPath : Routing → ℕ → ℕ → ℕ → ℕ → Hop → Type 0
OnPath g u v s i h = (c : ℕ) × Leaving g.rack u c × (hop_at g c v s i ≡ Some h)

-- the path ends at host v, with hop n
abbrev pub EndsAtHop : Routing → ℕ → ℕ → ℕ → ℕ → Type 0
EndsAtHop g u v s n = (h : Hop) × OnPath g u v s n h × (h.channel < channel_count g.rack) × (head g.rack h.channel ≡ v)

-- the pair's packets arrive
abbrev pub Delivered : Routing → ℕ → ℕ → ℕ → Type 0
Delivered g u v s = (n : ℕ) × EndsAtHop g u v s n
