-- What is promised of a plan that is built and checked. Assumes nothing.
use Rattle.std.specs.Prelude.{◌≡◌, ℕ, List, length, Ok, Err, Option, Result}
use Rattle.rack.specs.declared.rack.Rack.{Rack}
use Rattle.checking.specs.declared.fault.CheckFault.{CheckFault}
use Rattle.checking.specs.declared.fault.CheckFault.TheVariants.{Lanes, Tables, Level, Walk, Ring, Memory}
use Rattle.checking.specs.Starts.{Long}
use Rattle.checking.specs.declared.acceptance.Acceptance.{Acceptance}
use Rattle.checking.specs.Answers.{TablesAt, Checked}
use Rattle.routing.specs.Turns.{stored_lane}
use Rattle.routing.specs.Paths.{Routing, routing}
use Rattle.builder.specs.Method.{Tables as BuiltTables}
use Rattle.builder.specs.Outcomes.{Outcome}
use Rattle.planning.specs.declared.fault.PlanFault.{PlanFault}
use Rattle.planning.specs.declared.fault.PlanFault.TheVariants.{Build, Check}

-- the check of what was built stops only at tables that are too short, or for want of memory
abbrev pub OnlyShort : Rack → ℕ → TablesAt → CheckFault → Type 0
OnlyShort r levels t Lanes = ⊥
OnlyShort r levels t Tables = Long r levels (length t.dependencies) (length t.ranks) (length t.ring) → ⊥
OnlyShort r levels t (Level p) = ⊥
OnlyShort r levels t (Walk f) = ⊥
OnlyShort r levels t (Ring n) = ⊥
OnlyShort r levels t Memory = Unit {0}

-- the plan that stands in a lane table, over a source
abbrev pub planned : Rack → (ℕ → ℕ → Option ℕ) → List ℕ → Routing
planned r route lanes = routing r route (stored_lane r lanes)

-- what is answered: built and accepted; or not built, and the tables of the check unchanged; or built, and not checked since a table is too short or memory is wanting
abbrev pub Planned : Rack → (ℕ → ℕ → Option ℕ) → ℕ → BuiltTables → BuiltTables → TablesAt → TablesAt → Result Acceptance PlanFault → Type 0
Planned r route count was now before after (Ok a) = Outcome r route count was now (Ok tt) × Checked (planned r route now.lanes) now.levels count before after (Ok a)
Planned r route count was now before after (Err (Build f)) = Outcome r route count was now (Err f) × (after ≡ before)
Planned r route count was now before after (Err (Check f)) =
    Outcome r route count was now (Ok tt) × Checked (planned r route now.lanes) now.levels count before after (Err f) × OnlyShort r (length now.levels) before f
