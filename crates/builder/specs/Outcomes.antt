-- What building answers. Assumes nothing.
use Rattle.std.specs.Prelude.{◌≡◌, ℕ, ◌+◌, ◌*◌, ◌<◌, ◌≤◌, List, length, take, Ok, Err, Option, Result}
use Rattle.rack.specs.declared.rack.Rack.{Rack}
use Rattle.rack.specs.Racks.{node_count, channel_count}
use Rattle.routing.specs.declared.pair.Pair.{Pair}
use Rattle.routing.specs.declared.fault.WalkFault.{WalkFault}
use Rattle.routing.specs.Turns.{lane_bytes}
use Rattle.routing.specs.Plans.{OneToEight}
use Rattle.routing.specs.Paths.{PairOf}
use Rattle.routing.specs.Walks.{WalkStops}
use Rattle.builder.specs.declared.fault.BuildFault.{BuildFault}
use Rattle.builder.specs.declared.fault.BuildFault.TheVariants.{Lanes, Tables as Short, Walk, Lane, Level, Memory}
use Rattle.builder.specs.Method.{alone, PathOf, NoLevel, Tables, tables, blank, Receivers, Senders, Built}

-- both tables are long enough
abbrev pub LongEnough : Rack → Tables → Type 0
LongEnough r t = (lane_bytes (channel_count r) ≤ length t.lanes) × (node_count r * node_count r ≤ length t.levels)

-- the needed places of both tables
abbrev pub needed : Rack → Tables → Tables
needed r t = tables (take (lane_bytes (channel_count r)) t.lanes) (take (node_count r * node_count r) t.levels)

-- the pair has no path: the first fault on the way
abbrev pub NoPath : Rack → (ℕ → ℕ → Option ℕ) → Pair → BuildFault → Type 0
NoPath r route p f = (w : WalkFault) × (f ≡ Walk w) × WalkStops (alone r route) 8 p 0 (channel_count r) w

module _ (r : Rack) (route : ℕ → ℕ → Option ℕ) (count : ℕ) where
  -- what the pair lacks, at these tables: a path; then lanes: one for each middle turn, and lane 0; then a level
  abbrev pub Lacks : Pair → Tables → BuildFault → Type 0
  Lacks p was Lanes = ⊥
  Lacks p was Short = ⊥
  Lacks p was (Walk f) = WalkStops (alone r route) 8 p 0 (channel_count r) f
  Lacks p was (Lane q) = (q ≡ p) × ((path : List ℕ) × PathOf r route p.sender.0 p.receiver.0 path × (count + 2 < length path))
  Lacks p was (Level q) =
      (q ≡ p) × ((path : List ℕ) × PathOf r route p.sender.0 p.receiver.0 path × (length path ≤ count + 2) × NoLevel r was.lanes path)
  Lacks p was Memory = ⊥

  -- of the pairs of sender u, taken from these tables on, this is the first that lacks something
  pub record ReceiverLacks (u : ℕ) (was : Tables) (f : BuildFault) : Type 0 where
    pub pair : Pair
    pub here : Tables
    pub sender : pair.sender.0 ≡ u
    pub hosts : PairOf r u pair.receiver.0
    pub before : Receivers r route count u pair.receiver.0 was here
    pub lacks : Lacks pair here f

  -- of all pairs this is the first that lacks something
  pub record FirstLacks (f : BuildFault) : Type 0 where
    pub sender : ℕ
    pub there : Tables
    pub before : Senders r route count sender (blank r) there
    pub row : ReceiverLacks sender there f

  -- on a fault of a pair the needed places are 0
  abbrev pub Wiped : Tables → Tables → BuildFault → Type 0
  Wiped was now f = OneToEight count × LongEnough r was × (needed r now ≡ blank r) × FirstLacks f

  -- what becomes of the tables, and why: lane count, table lengths and memory are looked at first, in that order, and change nothing
  abbrev pub Outcome : Tables → Tables → Result (Unit {0}) BuildFault → Type 0
  Outcome was now (Ok x) = OneToEight count × LongEnough r was × Built r route count (needed r now)
  Outcome was now (Err Lanes) = (OneToEight count → ⊥) × (now ≡ was)
  Outcome was now (Err Short) = OneToEight count × (LongEnough r was → ⊥) × (now ≡ was)
  Outcome was now (Err (Walk f)) = Wiped was now (Walk f)
  Outcome was now (Err (Lane p)) = Wiped was now (Lane p)
  Outcome was now (Err (Level p)) = Wiped was now (Level p)
  Outcome was now (Err Memory) = OneToEight count × LongEnough r was × (now ≡ was)
