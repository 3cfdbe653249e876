-- What the builder answers, whenever the tables are long enough and it has memory. Assumes nothing.
use Rattle.std.specs.Prelude.{◌≡◌, ℕ, ◌*◌, List, [], ◌∷◌, replicate, Ok, Err, Option, Result, ◌≢◌, slice_set}
use Rattle.rack.specs.declared.rack.Rack.{Rack}
use Rattle.rack.specs.Racks.{node_count, channel_count}
use Rattle.routing.specs.Turns.{lane_bytes}
use Rattle.builder.specs.declared.fault.BuildFault.{BuildFault}
use Rattle.builder.specs.declared.fault.BuildFault.TheVariants.{Memory}
use Rattle.builder.specs.Method.{Tables, tables}
use Rattle.builder.specs.Outcomes.{LongEnough, needed, Outcome}

-- a table of n places that are all 0, but for those that are listed, each with what it holds
abbrev pub zeros_but : ℕ → List (ℕ × ℕ) → List ℕ
zeros_but n [] = replicate n 0
zeros_but n (w ∷ ws) = slice_set (zeros_but n ws) w.0 w.1

-- the needed places of the lane table and of the path table, all 0 but for those that are listed
abbrev pub blank_but : Rack → List (ℕ × ℕ) → List (ℕ × ℕ) → Tables
blank_but r lanes levels = tables (zeros_but (lane_bytes (channel_count r)) lanes) (zeros_but (node_count r * node_count r) levels)

-- the tables are long enough and there is memory, and the builder's contract allows the answer a, with the tables `was` before and `now` after
pub record BuildAnswers (r : Rack) (route : ℕ → ℕ → Option ℕ) (count : ℕ) (was now : Tables) (a : Result (Unit {0}) BuildFault) : Type 0 where
  pub long : LongEnough r was
  pub outcome : Outcome r route count was now a
  pub room : a ≢ Err Memory

-- whatever it answers, a plan is built, and the needed places hold these tables
abbrev pub BuildsTo : Rack → (ℕ → ℕ → Option ℕ) → ℕ → Tables → Type 0
BuildsTo r route count t = (was now : Tables) (a : Result (Unit {0}) BuildFault) → BuildAnswers r route count was now a → (a ≡ Ok tt) × (needed r now ≡ t)

-- whatever it answers, no plan is built, for that fault
abbrev pub NotBuilt : Rack → (ℕ → ℕ → Option ℕ) → ℕ → BuildFault → Type 0
NotBuilt r route count f = (was now : Tables) (a : Result (Unit {0}) BuildFault) → BuildAnswers r route count was now a → a ≡ Err f
