-- What holds of every table that the method gives. Assumes nothing.
use Rattle.std.specs.Prelude.{◌≡◌, ℕ, ◌+◌, ◌*◌, ◌<◌, ◌≤◌, true, ◌⊎◌, List, length, Err, Option, Result, ◌≢◌, slice_index}
use Rattle.rack.specs.declared.rack.Rack.{Rack}
use Rattle.rack.specs.Racks.{node_count, tail, head, Host}
use Rattle.routing.specs.Turns.{turns, stored_lane}
use Rattle.routing.specs.Paths.{PairOf}
use Rattle.builder.specs.declared.fault.BuildFault.{BuildFault}
use Rattle.builder.specs.declared.fault.BuildFault.TheVariants.{Memory}
use Rattle.builder.specs.Method.{PathOf, Middle, entry_of, Tables, Built}
use Rattle.routing.specs.Plans.{OneToEight}
use Rattle.builder.specs.Outcomes.{needed, Outcome}

-- every pair has a path, for which there are lanes enough, and a level, and every middle turn of the path has its own number for a lane there
pub record TurnsNumbered (r : Rack) (route : ℕ → ℕ → Option ℕ) (count : ℕ) (now : Tables) : Type 0 where
  pub paths : (u v : ℕ) → PairOf r u v → (path : List ℕ) × PathOf r route u v path × (length path ≤ count + 2)
  pub levels : (u v : ℕ) → PairOf r u v → slice_index now.levels (node_count r * u + v) < 16
  pub lanes :
      (u v : ℕ) (path : List ℕ) → PairOf r u v → PathOf r route u v path → (j : ℕ) → Middle path j →
      entry_of r now.lanes path (slice_index now.levels (node_count r * u + v)) j ≡ j

-- so it is in every table that the method gives
abbrev pub LanesRise : Type 0
LanesRise = (r : Rack) (route : ℕ → ℕ → Option ℕ) (count : ℕ) (now : Tables) → OneToEight count → Built r route count now → TurnsNumbered r route count now

-- a turn from a channel out of a host or to a channel into a host has lane 0 at every level
abbrev pub EndsKeep0 : Rack → List ℕ → Type 0
EndsKeep0 r lanes = (c d s : ℕ) → turns r c d ≡ true → Host r (tail r c) ⊎ Host r (head r d) → s < 16 → stored_lane r lanes c d s ≡ 0

-- so it is in every table that the method gives
abbrev pub FirstAndLast0 : Type 0
FirstAndLast0 = (r : Rack) (route : ℕ → ℕ → Option ℕ) (count : ℕ) (now : Tables) → Built r route count now → EndsKeep0 r now.lanes

-- but for want of memory there is one outcome: the rack, the source, the lane count and the tables as they were settle the answer and what the needed places hold
abbrev pub OneOutcome : Type 0
OneOutcome =
    (r : Rack) (route : ℕ → ℕ → Option ℕ) (count : ℕ) (was one other : Tables) (a b : Result (Unit {0}) BuildFault) →
    Outcome r route count was one a → Outcome r route count was other b → (a ≢ Err Memory) → (b ≢ Err Memory) →
    (a ≡ b) × (needed r one ≡ needed r other)
