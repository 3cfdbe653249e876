-- What is said of plans that are built. Assumes nothing.
use Rattle.std.specs.Prelude.{◌≡◌, ℕ, ◌*◌, ◌⊎◌, List, ◌++◌, Some, None, Ok, Err, Option, Result, IsSomeAnd, string_bytes}
use Rattle.rack.specs.declared.rack.Rack.{Rack}
use Rattle.rack.specs.Racks.{node_count}
use Rattle.builder.specs.declared.fault.BuildFault.{BuildFault}
use Rattle.builder.specs.Method.{Tables}
use Rattle.builder.specs.Outcomes.{Outcome}
use Rattle.checking.specs.declared.acceptance.Acceptance.{Acceptance}
use Rattle.checking.specs.declared.fault.CheckFault.{CheckFault}
use Rattle.checking.specs.Answers.{TablesAt, Checked}
use Rattle.planning.specs.Plans.{planned}
use Rattle.report.specs.declared.refusal.Refusal.TheVariants.{Build}
use Rattle.report.specs.declared.refusal.Told.{Told}
use Rattle.report.specs.Refusals.{told}
use Rattle.report.specs.Text.{accepted_line, refused_line}
use Rattle.up_down.specs.Laws.{Zeros, ZeroTables}
use Rattle.workbench.specs.declared.built.Built.{Built}
use Rattle.workbench.specs.declared.layout.Layout.{Layout}
use Rattle.workbench.specs.declared.layout.Layout.TheVariants.{Method, TwoHop, OneLane}
use Rattle.workbench.specs.declared.summary.Summary.{Summary}
use Rattle.workbench.specs.PlanFiles.{plan_bytes, Fits}
use Rattle.workbench.specs.Summaries.{Sums, summary_text}
use Rattle.workbench.specs.TwoHops.{FilledRows, HoldsTwoHop}
use Rattle.workbench.specs.Answers.{Roomy, RefusedText}

-- what becomes of the tables: they hold what the builder makes of them, or the two-hop map and level 0, or lane 0 and level 0 alone
abbrev pub LaidOut : Rack → (ℕ → ℕ → Option ℕ) → ℕ → Layout → Tables → Tables → Result (Unit {0}) BuildFault → Type 0
LaidOut r route count Method was now a = Outcome r route count was now a
LaidOut r route count TwoHop was now (Ok x) = FilledRows r now.lanes × HoldsTwoHop r now.lanes × Zeros (node_count r * node_count r) now.levels
LaidOut r route count TwoHop was now (Err b) = ⊥
LaidOut r route count OneLane was now (Ok x) = ZeroTables r now.lanes now.levels
LaidOut r route count OneLane was now (Err b) = ⊥

-- what is said of an accepted plan, whose tables are of the rack's lengths: its greatest rank and its summary; and its file holds its tables
pub record AcceptedSays (r : Rack) (route : ℕ → ℕ → Option ℕ) (count : ℕ) (lanes levels : List ℕ) (greatest : ℕ) (b : Built) : Type 0 where
  pub fits : Fits r lanes levels
  pub summary : Summary
  pub sums : Sums (planned r route lanes) levels count greatest summary
  pub text : string_bytes b.text ≡ accepted_line greatest ++ summary_text summary
  pub file : IsSomeAnd b.file (λ v. v.items ≡ plan_bytes count lanes levels)

-- what is said of what the check answers: of a refused plan there is no file
abbrev pub CheckedSays : Rack → (ℕ → ℕ → Option ℕ) → ℕ → Tables → List ℕ → Result Acceptance CheckFault → Built → Type 0
CheckedSays r route count now ring (Ok a) b = AcceptedSays r route count now.lanes now.levels a.greatest b
CheckedSays r route count now ring (Err fault) b = RefusedText r ring fault (string_bytes b.text) × (b.file ≡ None)

-- the tables are of the rack's lengths, before and after; they were laid out and checked
pub record CheckedBuild (r : Rack) (route : ℕ → ℕ → Option ℕ) (count : ℕ) (layout : Layout) (b : Built) : Type 0 where
  pub was : Tables
  pub now : Tables
  pub before : TablesAt
  pub after : TablesAt
  pub answer : Result Acceptance CheckFault
  pub fits : Fits r was.lanes was.levels
  pub stays : Fits r now.lanes now.levels
  pub room : Roomy r before
  pub laid : LaidOut r route count layout was now (Ok tt)
  pub checked : Checked (planned r route now.lanes) now.levels count before after answer
  pub says : CheckedSays r route count now after.ring answer b

-- the tables are of the rack's lengths, and were not laid out: why, and there is no file
pub record RefusedBuild (r : Rack) (route : ℕ → ℕ → Option ℕ) (count : ℕ) (layout : Layout) (b : Built) : Type 0 where
  pub was : Tables
  pub now : Tables
  pub fault : BuildFault
  pub numbers : Told
  pub fits : Fits r was.lanes was.levels
  pub laid : LaidOut r route count layout was now (Err fault)
  pub tells : told (Build fault) ≡ Some numbers
  pub text : string_bytes b.text ≡ refused_line numbers
  pub file : b.file ≡ None

-- the plan was laid out and checked, or it is said why it was not laid out
abbrev pub BuildSays : Rack → (ℕ → ℕ → Option ℕ) → ℕ → Layout → Built → Type 0
BuildSays r route count layout b = CheckedBuild r route count layout b ⊎ RefusedBuild r route count layout b
