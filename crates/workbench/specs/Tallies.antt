-- What the paths of pairs use. Assumes nothing.
use Rattle.std.specs.Prelude.{◌≡◌, ℕ, ◌+◌, ◌<◌, ◌⊎◌, List, None}
use Rattle.std.specs.List.{Contains}
use Rattle.routing.specs.Paths.{Routing, Hop, PairOf}
use Rattle.routing.specs.declared.walk.Step.{Step}
use Rattle.checking.specs.Plans.{level_at, On, AllFine}
use Rattle.report.specs.declared.refusal.Refusal.{Refusal}
use Rattle.report.specs.Refusals.{told}
use Rattle.workbench.specs.declared.tally.Tally.{Tally}

-- n is one more than the greatest number of which P holds, 0 if it holds of none
abbrev pub OneAbove : (ℕ → Type 0) → ℕ → Type 0
OneAbove P n = ((k : ℕ) → P k → k < n) × ((k : ℕ) → k + 1 ≡ n → P k)

-- a step of the list is on lane k
abbrev pub LaneOf : List Step → ℕ → Type 0
LaneOf path k = (h : Step) × Contains path h × (h.lane.number ≡ k)

-- the path of the pair u, v has a hop on lane k; the pair is at level k; its path has a hop k
abbrev pub UsesLane : Routing → List ℕ → ℕ → ℕ → ℕ → Type 0
UsesLane g levels u v k = (i : ℕ) × (h : Hop) × On g levels u v i h × (h.lane ≡ k)

abbrev pub UsesLevel : Routing → List ℕ → ℕ → ℕ → ℕ → Type 0
UsesLevel g levels u v k = level_at g.rack levels u v ≡ k

abbrev pub HasHop : Routing → List ℕ → ℕ → ℕ → ℕ → Type 0
HasHop g levels u v k = (h : Hop) × On g levels u v k h

-- P holds of number k for one of these pairs
abbrev pub OfOne : (ℕ → ℕ → Type 0) → (ℕ → ℕ → ℕ → Type 0) → ℕ → Type 0
OfOne Pairs P k = (u v : ℕ) × Pairs u v × P u v k

-- one more than the greatest lane and the greatest level that the paths of these pairs use, and how many channels the longest has: hops count from 0
pub record Uses (g : Routing) (levels : List ℕ) (Pairs : ℕ → ℕ → Type 0) (lanes_used levels_used longest : ℕ) : Type 0 where
  pub lanes : OneAbove (OfOne Pairs (UsesLane g levels)) lanes_used
  pub top : OneAbove (OfOne Pairs (UsesLevel g levels)) levels_used
  pub hops : OneAbove (OfOne Pairs (HasHop g levels)) longest

-- the tally is that of all pairs; of the pair u, v alone
abbrev pub Tallied : Routing → List ℕ → Tally → Type 0
Tallied g levels t = Uses g levels (PairOf g.rack) t.lanes t.levels t.longest

abbrev pub OneTallied : Routing → List ℕ → ℕ → ℕ → Tally → Type 0
OneTallied g levels u v t = OneAbove (UsesLane g levels u v) t.lanes × OneAbove (UsesLevel g levels u v) t.levels × OneAbove (HasHop g levels u v) t.longest

-- there is none for want of memory, or since not all pairs are fine
abbrev pub NoTally : Routing → List ℕ → ℕ → Refusal → Type 0
NoTally g levels count f = (told f ≡ None) ⊎ (AllFine g levels count → ⊥)
