-- What holds of all plan files, and of plans over a root. Assumes nothing.
use Rattle.std.specs.Prelude.{◌≡◌, ℕ, List, Option}
use Rattle.rack.specs.declared.rack.Rack.{Rack}
use Rattle.up_down.specs.Sources.{IsUpDown}
use Rattle.up_down.specs.Laws.{ZeroTables}
use Rattle.workbench.specs.declared.built.Built.{Built}
use Rattle.workbench.specs.declared.layout.Layout.TheVariants.{OneLane}
use Rattle.workbench.specs.declared.plan_file.PlanFile.{PlanFile}
use Rattle.workbench.specs.Builds.{AcceptedSays, BuildSays}
use Rattle.workbench.specs.PlanFiles.{plan_bytes, Fits, Holds}

-- the file of tables that have the places of a rack holds those tables alone
abbrev pub ReadBack : Type 0
ReadBack =
    (r : Rack) (count : ℕ) (lanes levels : List ℕ) (p : PlanFile) → Fits r lanes levels → Holds r (plan_bytes count lanes levels) p →
    (p.lane_count ≡ count) × (p.lanes.now ≡ lanes) × (p.levels.now ≡ levels)

-- where packets go up and then down over a root switch, what is laid out with lane 0 alone and checked with one lane is accepted, with tables of zeros
abbrev pub AcceptedOverRoot : Type 0
AcceptedOverRoot =
    (r : Rack) (root : ℕ) (route : ℕ → ℕ → Option ℕ) (b : Built) → IsUpDown r root route → BuildSays r route 1 OneLane b →
    (lanes levels : List ℕ) × (greatest : ℕ) × ZeroTables r lanes levels × AcceptedSays r route 1 lanes levels greatest b
