-- The first number of a range that passes a test, as the answer of a graph.
use Rattle.std.proofs.Common.{ℕ, ◌<◌, ◌≤◌, None, Some, Option, MatchOption}
use Rattle.ranking.specs.Graphs.{Next}

-- P holds of the numbers below n that have Q
pub next_from_first : (P Q : ℕ → Type 0) (a n : ℕ) → ((z : ℕ) → P z → (z < n) × Q z) → ((z : ℕ) → z < n → Q z → P z) → (r : Option ℕ) → MatchOption r ((k : ℕ) → a ≤ k → k < n → Q k → ⊥) (λ i. (a ≤ i) × (i < n) × Q i × ((k : ℕ) → a ≤ k → k < i → Q k → ⊥)) → Next P a r
next_from_first P Q a n to from None h = λ z l p. h z l (to z p).0 (to z p).1
next_from_first P Q a n to from (Some y) h = (h.0, from y h.1 h.2, λ z l below p. h.3 z l below (to z p).1)
