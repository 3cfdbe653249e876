-- Builds over a root switch with one lane. Assumes nothing.
use Rattle.std.proofs.Common.{ℕ, List, Option, Ok, Err, Result, sym, ap, ◌∙◌, inl, inr, arith}
use Rattle.std.proofs.lemmas.Option.{none-some}
use Rattle.rack.specs.declared.rack.Rack.{Rack}
use Rattle.builder.specs.Method.{Tables}
use Rattle.checking.specs.declared.acceptance.Acceptance.{Acceptance}
use Rattle.checking.specs.declared.fault.CheckFault.{CheckFault}
use Rattle.checking.specs.declared.fault.CheckFault.TheVariants.{Memory}
use Rattle.checking.specs.Answers.{TablesAt, Starts, Accepted}
use Rattle.planning.specs.Plans.{planned}
use Rattle.report.specs.declared.refusal.Refusal.TheVariants.{Check}
use Rattle.report.specs.Refusals.{told}
use Rattle.up_down.specs.Sources.{IsUpDown}
use Rattle.up_down.specs.Laws.{ZeroTables}
use Rattle.up_down.proofs.Accepting.{up_down_accepted}
use Rattle.workbench.specs.declared.built.Built.{Built}
use Rattle.workbench.specs.declared.layout.Layout.TheVariants.{OneLane}
use Rattle.workbench.specs.PlanFiles.{Fits}
use Rattle.workbench.specs.Answers.{Roomy, RefusedText}
use Rattle.workbench.specs.Builds.{AcceptedSays, CheckedSays, BuildSays}
use Rattle.workbench.specs.Laws.{AcceptedOverRoot}

-- the fault of an answer; of an acceptance any
abbrev fault_of : Result Acceptance CheckFault → CheckFault
fault_of (Ok a) = Memory
fault_of (Err f) = f

-- only want of memory keeps a plan from being accepted, and then nothing is said of it
silent : (r : Rack) (ring text : List ℕ) (f : CheckFault) → Accepted (Err f) → RefusedText r ring f text → ⊥
silent r ring text f (inl e) h = absurd cc
silent r ring text f (inr e) h = none-some h.0 (ap (λ g. told (Check g)) (sym (ap fault_of e)) ∙ h.1)

module _ (r : Rack) (root : ℕ) (route : ℕ → ℕ → Option ℕ) (b : Built) (over : IsUpDown r root route) where
  -- the check can start
  starts : (before : TablesAt) (now : Tables) → Fits r now.lanes now.levels → Roomy r before → Starts (planned r route now.lanes) now.levels 1 before
  starts before now fits room = ((omega arith, omega arith), (omega (arith, fits.1), room.0, room.1, room.2))

  -- and all that the check can answer is that it accepts
  says : (before after : TablesAt) (now : Tables) (a : Result Acceptance CheckFault) → Accepted a → ZeroTables r now.lanes now.levels → CheckedSays r route 1 now after.ring a b →
      (lanes levels : List ℕ) × (greatest : ℕ) × ZeroTables r lanes levels × AcceptedSays r route 1 lanes levels greatest b
  says before after now (Ok a) fine zeros h = (now.lanes, now.levels, a.greatest, zeros, h)
  says before after now (Err f) fine zeros h = absurd (silent r after.ring _ f fine h.0)

  -- what is built is accepted
  accepted : BuildSays r route 1 OneLane b → (lanes levels : List ℕ) × (greatest : ℕ) × ZeroTables r lanes levels × AcceptedSays r route 1 lanes levels greatest b
  accepted (inl h) =
      let law = up_down_accepted r root route h.now.lanes h.now.levels over h.laid in
      says h.before h.after h.now h.answer (law.accepted h.before h.after h.answer (starts h.before h.now h.stays h.room) h.checked) h.laid h.says
  accepted (inr h) = absurd h.laid

pub accepted_over_root : AcceptedOverRoot
accepted_over_root = accepted
