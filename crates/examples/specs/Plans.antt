-- What the walk and the check answer, whenever there is memory and the check can start. Assumes nothing.
use Rattle.std.specs.Prelude.{◌≡◌, ℕ, List, Ok, Err, Result, ◌≢◌}
use Rattle.routing.specs.declared.pair.Pair.{Pair}
use Rattle.routing.specs.declared.fault.WalkFault.{WalkFault}
use Rattle.routing.specs.declared.fault.WalkFault.TheVariants.{Memory as NoRoom}
use Rattle.routing.specs.declared.walk.Step.{Step}
use Rattle.routing.specs.Paths.{Routing}
use Rattle.routing.specs.Walks.{Walked, WalkStops}
use Rattle.checking.specs.declared.acceptance.Acceptance.{Acceptance}
use Rattle.checking.specs.declared.fault.CheckFault.{CheckFault}
use Rattle.checking.specs.declared.fault.CheckFault.TheVariants.{Memory}
use Rattle.checking.specs.Answers.{TablesAt, Starts, Checked, ExactlySound}

-- the check can start and has memory, and its contract allows the answer a, with the tables `before` before it and `after` after it
pub record CheckAnswers (g : Routing) (levels : List ℕ) (lanes : ℕ) (before after : TablesAt) (a : Result Acceptance CheckFault) : Type 0 where
  pub starts : Starts g levels lanes before
  pub checked : Checked g levels lanes before after a
  pub exact : ExactlySound g levels lanes before a
  pub room : a ≢ Err Memory

-- whatever it answers, it accepts the plan, with that greatest rank
abbrev pub AcceptedWith : Routing → List ℕ → ℕ → ℕ → Type 0
AcceptedWith g levels lanes greatest =
    (before after : TablesAt) (a : Result Acceptance CheckFault) → CheckAnswers g levels lanes before after a →
    (k : Acceptance) × (a ≡ Ok k) × (k.greatest ≡ greatest)

-- whatever it answers, it refuses the plan, with that fault
abbrev pub RefusedWith : Routing → List ℕ → ℕ → CheckFault → Type 0
RefusedWith g levels lanes f = (before after : TablesAt) (a : Result Acceptance CheckFault) → CheckAnswers g levels lanes before after a → a ≡ Err f

-- whatever the walk along the path of the pair at level s answers by its contract, it is that fault
abbrev pub WalkTells : Routing → ℕ → Pair → ℕ → WalkFault → Type 0
WalkTells g lanes p s f =
    ((path : List Step) → Walked g lanes p s path → ⊥) × ((room : ℕ) (e : WalkFault) → WalkStops g lanes p s room e → e ≢ NoRoom → e ≡ f)
