-- How a lane plan is built: what one pair does to the tables, and the pairs in their order. Assumes nothing.
use Rattle.std.specs.Prelude.{◌≡◌, ℕ, zero, suc, ◌+◌, ◌-◌, ◌*◌, ◌<◌, ◌≤◌, true, ◌⊎◌, List, map, length, replicate, Option, ◌≢◌, slice_index, slice_set}
use Rattle.rack.specs.declared.rack.Rack.{Rack}
use Rattle.rack.specs.Racks.{node_count, channel_count, tail_port}
use Rattle.routing.specs.declared.walk.Step.{Step}
use Rattle.routing.specs.Turns.{turns, row_start, stored_lane, lane_bytes}
use Rattle.routing.specs.Paths.{Routing, routing, hop, PairOf, OnPath, EndsAtHop}

-- paths by the source alone: every hop keeps to lane 0
abbrev pub alone : Rack → (ℕ → ℕ → Option ℕ) → Routing
alone r route = routing r route (λ _ _ _. 0)

-- the channel of a step of a path
abbrev pub channel_of : Step → ℕ
channel_of p = p.channel.0

-- the channels of the steps of a path
abbrev pub channels_of : List Step → List ℕ
channels_of steps = map channel_of steps

-- the list holds the channels of the path of the pair u, v, from the one out of u to the one into v
pub record PathOf (r : Rack) (route : ℕ → ℕ → Option ℕ) (u v : ℕ) (path : List ℕ) : Type 0 where
  pub some : 0 < length path
  pub short : length path ≤ channel_count r
  pub hops : (i : ℕ) → i < length path → OnPath (alone r route) u v 0 i (hop (slice_index path i) 0)
  pub ends : EndsAtHop (alone r route) u v 0 (length path - 1)

-- in a path c0 .. cn, middle turn j, for j from 1 to n - 2, goes from channel j to channel j + 1
abbrev pub Middle : List ℕ → ℕ → Type 0
Middle path j = (1 ≤ j) × (j + 2 < length path)

-- every middle turn is a turn at a switch, and no channel comes twice
pub record Passes (r : Rack) (path : List ℕ) : Type 0 where
  pub turning : (j : ℕ) → Middle path j → turns r (slice_index path j) (slice_index path (j + 1)) ≡ true
  pub once : (i j : ℕ) → i < length path → j < length path → slice_index path i ≡ slice_index path j → i ≡ j

-- the entry of middle turn j at level s in the lane table
abbrev pub entry_of : Rack → List ℕ → List ℕ → ℕ → ℕ → ℕ
entry_of r lanes path s j = stored_lane r lanes (slice_index path j) (slice_index path (j + 1)) s

-- the place in the lane table of the entry of middle turn j at level s
abbrev pub entry_place : Rack → List ℕ → ℕ → ℕ → ℕ
entry_place r path s j = row_start (slice_index path j) (tail_port r (slice_index path (j + 1))) + s

-- the path fits at level s: the entry of every middle turn there is 0 or the turn's own number
abbrev pub Fits : Rack → List ℕ → List ℕ → ℕ → Type 0
Fits r lanes path s = (j : ℕ) → Middle path j → (entry_of r lanes path s j ≡ 0) ⊎ (entry_of r lanes path s j ≡ j)

-- s is the lowest level at which the path fits
pub record Lowest (r : Rack) (lanes path : List ℕ) (s : ℕ) : Type 0 where
  pub level : s < 16
  pub fits : Fits r lanes path s
  pub least : (t : ℕ) → t < s → Fits r lanes path t → ⊥

-- the path fits at no level
abbrev pub NoLevel : Rack → List ℕ → List ℕ → Type 0
NoLevel r lanes path = (s : ℕ) → s < 16 → Fits r lanes path s → ⊥

-- the entry of every middle turn at level s is the turn's own number now, and all else is as it was
pub record Claimed (r : Rack) (path : List ℕ) (s : ℕ) (was now : List ℕ) : Type 0 where
  pub long : length now ≡ length was
  pub given : (j : ℕ) → Middle path j → slice_index now (entry_place r path s j) ≡ j
  pub kept : (k : ℕ) → ((j : ℕ) → Middle path j → k ≢ entry_place r path s j) → slice_index now k ≡ slice_index was k

-- the lane table and the path table
pub record Tables : Type 0 where
  pub lanes : List ℕ
  pub levels : List ℕ

-- a lane table and a path table, put together
abbrev pub tables : List ℕ → List ℕ → Tables
tables lanes levels = record { lanes = lanes; levels = levels }

-- the needed places of both tables, all 0
abbrev pub blank : Rack → Tables
blank r = tables (replicate (lane_bytes (channel_count r)) 0) (replicate (node_count r * node_count r) 0)

-- what a pair does to the tables by its path: the lowest level at which it fits stands at the pair's place, and its lanes stand at that level
pub record Placed (r : Rack) (path : List ℕ) (place s : ℕ) (was now : Tables) : Type 0 where
  pub lowest : Lowest r was.lanes path s
  pub claimed : Claimed r path s was.lanes now.lanes
  pub told : now.levels ≡ slice_set was.levels place s

-- the pair u, v has a path, for which there are lanes enough, and what that path does to the tables is done (`Placed`)
pub record PairBuilt (r : Rack) (route : ℕ → ℕ → Option ℕ) (count u v : ℕ) (was now : Tables) : Type 0 where
  pub path : List ℕ
  pub level : ℕ
  pub walked : PathOf r route u v path
  pub short : length path ≤ count + 2
  pub placed : Placed r path (node_count r * u + v) level was now

module _ (r : Rack) (route : ℕ → ℕ → Option ℕ) (count : ℕ) where
  -- sender u and receiver v are taken: what is no pair of different hosts changes nothing
  abbrev pub Taken : ℕ → ℕ → Tables → Tables → Type 0
  Taken u v was now = (PairOf r u v × PairBuilt r route count u v was now) ⊎ ((PairOf r u v → ⊥) × (now ≡ was))

  -- sender u and the receivers below a number are taken, by ascending receiver
  abbrev pub Receivers : ℕ → ℕ → Tables → Tables → Type 0
  Receivers u zero was now = now ≡ was
  Receivers u (suc v) was now = (mid : Tables) × Receivers u v was mid × Taken u v mid now

  -- the senders below a number are taken, by ascending sender
  abbrev pub Senders : ℕ → Tables → Tables → Type 0
  Senders zero was now = now ≡ was
  Senders (suc u) was now = (mid : Tables) × Senders u was mid × Receivers u (node_count r) mid now

  -- the tables of the method: all pairs are taken, from tables that are all 0
  abbrev pub Built : Tables → Type 0
  Built now = Senders (node_count r) (blank r) now
