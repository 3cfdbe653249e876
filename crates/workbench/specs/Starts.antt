-- What is said where a dry fabric starts and ends. Assumes nothing.
use Rattle.std.specs.Prelude.{◌≡◌, ℕ, ◌⊎◌, List, length, Some, Option, Err, string_bytes}
use Rattle.rack.specs.declared.rack.Rack.{Rack}
use Rattle.routing.specs.declared.plan.Plan.{Plan}
use Rattle.checking.specs.declared.fault.CheckFault.{CheckFault}
use Rattle.routing.specs.Plans.{OneToEight}
use Rattle.checking.specs.Plans.{Sound}
use Rattle.checking.specs.Answers.{TablesAt, Checked}
use Rattle.courses.specs.Queues.{Queues}
use Rattle.fabric.specs.declared.fault.FabricFault.{FabricFault}
use Rattle.fabric.specs.declared.packet.Packet.{Packet}
use Rattle.fabric.specs.Calls.{Enough, CanStart, CannotStart, OpenRefused, Emptied, waiting_count}
use Rattle.planning.specs.Plans.{planned}
use Rattle.report.specs.declared.refusal.Told.{Told}
use Rattle.report.specs.Text.{refused_line}
use Rattle.workbench.specs.declared.dry.Start.{Start}
use Rattle.workbench.specs.declared.dry.Start.TheVariants.{Open, Refused}
use Rattle.workbench.specs.declared.reply.Reply.{Reply}
use Rattle.workbench.specs.declared.reply.Reply.TheVariants.{Closed, Refused as Refusing}
use Rattle.workbench.specs.Answers.{Roomy, RefusedText}
use Rattle.workbench.specs.Replies.{told_of}

-- the fabric is open at the depth, calls can be made, and nothing waits in its queues; or it is said why it is not, and the queues are as they were
abbrev pub OpenSays : Rack → List ℕ → ℕ → ℕ → Queues Packet → Queues Packet → Start → Type 0
OpenSays r levels count depth before after (Open f) = (f.depth ≡ depth) × OneToEight depth × OneToEight count × Enough r (length levels) (length before) × Emptied r before after
OpenSays r levels count depth before after (Refused s) =
    (x : FabricFault) × (t : Told) × OpenRefused depth count (Enough r (length levels) (length before)) x × (told_of x ≡ Some t) × (string_bytes s ≡ refused_line t) × (after ≡ before)

-- what is said where the fabric is not open
abbrev pub Says : Start → (List ℕ → Type 0) → Type 0
Says (Open f) P = ⊥
Says (Refused s) P = P (string_bytes s)

-- the plan was refused, in tables that have the places, and it is said why
pub record RefusedPlan (r : Rack) (route : ℕ → ℕ → Option ℕ) (lanes levels : List ℕ) (count : ℕ) (before after : Queues Packet) (s : Start) : Type 0 where
  pub was : TablesAt
  pub now : TablesAt
  pub fault : CheckFault
  pub room : Roomy r was
  pub checked : Checked (planned r route lanes) levels count was now (Err fault)
  pub says : Says s (RefusedText r now.ring fault)
  pub kept : after ≡ before

-- a fabric is opened under a sound plan alone
abbrev pub StartSays : Rack → (ℕ → ℕ → Option ℕ) → List ℕ → List ℕ → ℕ → ℕ → Queues Packet → Queues Packet → Start → Type 0
StartSays r route lanes levels count depth before after s =
    (Sound (planned r route lanes) levels count × OpenSays r levels count depth before after s) ⊎ RefusedPlan r route lanes levels count before after s

-- at the end it is said how many packets wait; or why the fabric was not closed
abbrev pub CloseSays : {S M : Type 0} → Plan S M → Queues Packet → Reply → Type 0
CloseSays plan qs (Closed n) = CanStart plan (length qs) × (n ≡ waiting_count plan.rack.now qs)
CloseSays plan qs (Refusing t) = (x : FabricFault) × CannotStart plan (length qs) x × (told_of x ≡ Some t)
CloseSays plan qs _ = ⊥
