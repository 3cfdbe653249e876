-- What a plan file holds, byte by byte. Assumes nothing.
use Rattle.std.specs.Prelude.{◌≡◌, ℕ, ◌+◌, ◌*◌, ◌≢◌, List, ◌∷◌, ◌++◌, length, codes, decimal}
use Rattle.rack.specs.declared.rack.Rack.{Rack}
use Rattle.rack.specs.Racks.{node_count, channel_count}
use Rattle.routing.specs.Turns.{lane_bytes}
use Rattle.workbench.specs.declared.plan_file.PlanFile.{PlanFile}
use Rattle.workbench.specs.declared.plan_file.PlanLength.{PlanLength}

-- the lane count, then the lane table, then the path table
abbrev pub plan_bytes : ℕ → List ℕ → List ℕ → List ℕ
plan_bytes count lanes levels = count ∷ (lanes ++ levels)

-- how many bytes that are for a rack: sixteen for every channel and port, and one for every two nodes
abbrev pub plan_length : Rack → ℕ
plan_length r = 1 + lane_bytes (channel_count r) + node_count r * node_count r

-- the tables have the places of the rack
abbrev pub Fits : Rack → List ℕ → List ℕ → Type 0
Fits r lanes levels = (length lanes ≡ lane_bytes (channel_count r)) × (length levels ≡ node_count r * node_count r)

-- the file is that of a plan for the rack
abbrev pub Holds : Rack → List ℕ → PlanFile → Type 0
Holds r file p = Fits r p.lanes.now p.levels.now × (file ≡ plan_bytes p.lane_count p.lanes.now p.levels.now)

-- the file has another length: so many bytes were wanted and found
abbrev pub WrongLength : Rack → List ℕ → PlanLength → Type 0
WrongLength r file l = (length file ≢ plan_length r) × (l ≡ record { wanted = plan_length r; found = length file })

-- what is said of such a file
abbrev pub length_text : PlanLength → List ℕ
length_text l = codes "a plan for this rack has " ++ (decimal l.wanted ++ (codes " bytes, and this file " ++ decimal l.found))
