-- What is said of plans. Assumes nothing.
use Rattle.std.specs.Prelude.{◌≡◌, ℕ, ◌*◌, ◌≤◌, List, [], ◌++◌, length, take, Some, Ok, Err, Result}
use Rattle.std.specs.List.{flat_map}
use Rattle.rack.specs.declared.rack.Rack.{Rack}
use Rattle.rack.specs.Racks.{channel_count}
use Rattle.routing.specs.Turns.{turn_count}
use Rattle.routing.specs.Paths.{Routing}
use Rattle.checking.specs.declared.acceptance.Acceptance.{Acceptance}
use Rattle.checking.specs.declared.fault.CheckFault.{CheckFault}
use Rattle.checking.specs.declared.fault.CheckFault.TheVariants.{Ring}
use Rattle.checking.specs.Answers.{TablesAt, Checked}
use Rattle.report.specs.declared.refusal.Refusal.TheVariants.{Check}
use Rattle.report.specs.declared.refusal.Told.{Told}
use Rattle.report.specs.Refusals.{told}
use Rattle.report.specs.Text.{accepted_line, refused_line}
use Rattle.workbench.specs.Rings.{ring_line}

-- the lines of the ring that a refusal shows
abbrev pub shown_ring : Rack → List ℕ → CheckFault → List ℕ
shown_ring r ring (Ring n) = flat_map (ring_line r) (take n ring)
shown_ring r ring _ = []

-- the line of a refusal, and behind it its ring
abbrev pub RefusedText : Rack → List ℕ → CheckFault → List ℕ → Type 0
RefusedText r ring f text = (t : Told) × (told (Check f) ≡ Some t) × (text ≡ refused_line t ++ shown_ring r ring f)

-- what is said of what the check answers, with its ring table
abbrev pub Said : Rack → List ℕ → Result Acceptance CheckFault → List ℕ → Type 0
Said r ring (Ok a) text = text ≡ accepted_line a.greatest
Said r ring (Err f) text = RefusedText r ring f text

-- the work tables have the places that a check of the rack needs
abbrev pub Roomy : Rack → TablesAt → Type 0
Roomy r t = (turn_count (channel_count r) ≤ length t.dependencies) × (8 * channel_count r ≤ length t.ranks) × (8 * channel_count r ≤ length t.ring)

-- what is said of a plan: what the check of it answers, in tables that have the places
pub record CheckText (g : Routing) (levels : List ℕ) (count : ℕ) (text : List ℕ) : Type 0 where
  pub before : TablesAt
  pub after : TablesAt
  pub answer : Result Acceptance CheckFault
  pub room : Roomy g.rack before
  pub checked : Checked g levels count before after answer
  pub said : Said g.rack after.ring answer text
