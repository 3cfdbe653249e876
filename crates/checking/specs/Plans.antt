-- What a plan's dependencies are, and when a plan is sound. Assumes nothing.
use Rattle.std.specs.Prelude.{◌≡◌, ℕ, suc, ◌+◌, ◌*◌, ◌<◌, ◌≤◌, true, ◌⊎◌, ◌↔◌, List, slice_index}
use Rattle.rack.specs.declared.rack.Rack.{Rack}
use Rattle.rack.specs.Racks.{node_count, channel_count, head, tail, Switch, LeavingBy}
use Rattle.ranking.specs.Graphs.{NoRing}
use Rattle.routing.specs.declared.pair.Pair.{Pair}
use Rattle.routing.specs.Turns.{turn_place}
use Rattle.routing.specs.Paths.{Routing, Hop, PairOf, OnPath, Delivered}
use Rattle.routing.specs.Walks.{WalkStops}
use Rattle.checking.specs.declared.fault.CheckFault.{CheckFault}
use Rattle.checking.specs.declared.fault.CheckFault.TheVariants.{Lanes, Tables, Level, Walk, Ring, Memory}
use Rattle.checking.specs.Words.{bit}

-- the level that the path table has for the pair u, v
abbrev pub level_at : Rack → List ℕ → ℕ → ℕ → ℕ
level_at r levels u v = slice_index levels (node_count r * u + v)

-- hop i of the path of the pair u, v at its level is h
abbrev pub On : Routing → List ℕ → ℕ → ℕ → ℕ → Hop → Type 0
On g levels u v i h = OnPath g u v (level_at g.rack levels u v) i h

-- the number of a virtual channel: lane q of channel c is 8c + q
abbrev pub virtual : Hop → ℕ
virtual h = 8 * h.channel + h.lane

-- virtual channel x is followed by y: the path of some pair uses x, and directly after it y
pub record IsFollowedBy (g : Routing) (levels : List ℕ) (x y : ℕ) : Type 0 where
  pub sender : ℕ
  pub receiver : ℕ
  pub place : ℕ
  pub one : Hop
  pub other : Hop
  pub pair : PairOf g.rack sender receiver
  pub uses : On g levels sender receiver place one
  pub then : On g levels sender receiver (suc place) other
  pub from : x ≡ virtual one
  pub to : y ≡ virtual other

-- the packets of the pair arrive, its level is at most 15, and all lanes that its path uses lie below the lane count
pub record FinePair (g : Routing) (levels : List ℕ) (lanes u v : ℕ) : Type 0 where
  pub level : level_at g.rack levels u v ≤ 15
  pub arrives : Delivered g u v (level_at g.rack levels u v)
  pub low : (i : ℕ) (h : Hop) → On g levels u v i h → h.lane < lanes

-- every pair is fine
abbrev pub AllFine : Routing → List ℕ → ℕ → Type 0
AllFine g levels lanes = (u v : ℕ) → PairOf g.rack u v → FinePair g levels lanes u v

-- a sound plan: every pair is fine, and no virtual channels follow one another in a ring
pub record Sound (g : Routing) (levels : List ℕ) (lanes : ℕ) : Type 0 where
  pub pairs : AllFine g levels lanes
  pub no_ring : NoRing (IsFollowedBy g levels)

-- the dependency table: bit 8v + q of place 36c + p - 1 is 1 exactly where lane v of channel c is followed by lane q of the channel that leaves by port p
abbrev pub Exact : Routing → List ℕ → List ℕ → Type 0
Exact g levels table =
    (c p v q : ℕ) → c < channel_count g.rack → 1 ≤ p → p ≤ 36 → v < 8 → q < 8 →
    (bit (slice_index table (turn_place c p)) (8 * v + q) ≡ true ↔ ((d : ℕ) × LeavingBy g.rack (head g.rack c) p d × IsFollowedBy g levels (8 * c + v) (8 * d + q)))

-- the pair a, b comes before the pair u, v: by sender, and then by receiver
abbrev pub Earlier : ℕ → ℕ → ℕ → ℕ → Type 0
Earlier a b u v = (a < u) ⊎ ((a ≡ u) × (b < v))

-- all pairs before u, v are fine
abbrev pub FineBefore : Routing → List ℕ → ℕ → ℕ → ℕ → Type 0
FineBefore g levels lanes u v = (a b : ℕ) → PairOf g.rack a b → Earlier a b u v → FinePair g levels lanes a b

-- what is wrong with the pair: its level, or else its path
abbrev pub AtFault : Routing → List ℕ → ℕ → Pair → CheckFault → Type 0
AtFault g levels lanes p Lanes = ⊥
AtFault g levels lanes p Tables = ⊥
AtFault g levels lanes p (Level q) = (q ≡ p) × (15 < level_at g.rack levels p.sender.0 p.receiver.0)
AtFault g levels lanes p (Walk f) =
    (level_at g.rack levels p.sender.0 p.receiver.0 ≤ 15) × WalkStops g lanes p (level_at g.rack levels p.sender.0 p.receiver.0) (channel_count g.rack) f
AtFault g levels lanes p (Ring n) = ⊥
AtFault g levels lanes p Memory = ⊥

-- the fault is that of the first pair that is not fine
abbrev pub FirstFault : Routing → List ℕ → ℕ → CheckFault → Type 0
FirstFault g levels lanes f =
    (p : Pair) × PairOf g.rack p.sender.0 p.receiver.0 × FineBefore g levels lanes p.sender.0 p.receiver.0 × AtFault g levels lanes p f

-- channel c goes from a switch to a switch
abbrev pub BetweenSwitches : Rack → ℕ → Type 0
BetweenSwitches r c = Switch r (tail r c) × Switch r (head r c)

-- from each channel between switches to the next such channel of a path the lane rises
abbrev pub Rises : Routing → List ℕ → Type 0
Rises g levels =
    (u v i : ℕ) (h o : Hop) → PairOf g.rack u v → On g levels u v i h → On g levels u v (suc i) o → BetweenSwitches g.rack h.channel → BetweenSwitches g.rack o.channel →
    h.lane < o.lane
