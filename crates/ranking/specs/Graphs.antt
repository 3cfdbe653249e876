-- Chains, ranks and rings of any relation f between numbers: f x y says that x is followed by y.
use Rattle.std.specs.Prelude.{◌≡◌, ℕ, zero, suc, ◌+◌, ◌-◌, ◌<◌, ◌≤◌, ◌⊎◌, List, length, Some, None, Ok, Err, Option, Result, slice_index}
use Rattle.ranking.specs.declared.faults.RankFault.{RankFault}
use Rattle.ranking.specs.declared.faults.RankFault.TheVariants.{Tables, Ring}

-- f relates no numbers but those below n
abbrev pub Within : (ℕ → ℕ → Type 0) → ℕ → Type 0
Within f n = (x y : ℕ) → f x y → (x < n) × (y < n)

-- the answer is the least number from `from` on that P holds of, and None if there is none
abbrev pub Next : (ℕ → Type 0) → ℕ → Option ℕ → Type 0
Next P from None = (z : ℕ) → from ≤ z → P z → ⊥
Next P from (Some y) = (from ≤ y) × P y × ((z : ℕ) → from ≤ z → z < y → P z → ⊥)

-- a chain of k steps, each point followed by the next, ends in y
abbrev pub ChainTo : (ℕ → ℕ → Type 0) → ℕ → ℕ → Type 0
ChainTo f zero y = Unit {0}
ChainTo f (suc k) y = (x : ℕ) × ChainTo f k x × f x y

-- r is the number of steps in the longest chain that ends in y
pub record IsRank (f : ℕ → ℕ → Type 0) (y r : ℕ) : Type 0 where
  pub reached : ChainTo f r y
  pub longest : (k : ℕ) → ChainTo f k y → k ≤ r

-- at 0, at 1, .., at (len - 1) are distinct, each is followed by the next, and the last by the first
pub record IsRing (f : ℕ → ℕ → Type 0) (at : ℕ → ℕ) (len : ℕ) : Type 0 where
  pub some : 0 < len
  pub steps : (i : ℕ) → i + 1 < len → f (at i) (at (i + 1))
  pub closes : f (at (len - 1)) (at 0)
  pub apart : (i j : ℕ) → i < len → j < len → at i ≡ at j → i ≡ j

-- there is no ring
abbrev pub NoRing : (ℕ → ℕ → Type 0) → Type 0
NoRing f = (at : ℕ → ℕ) (len : ℕ) → IsRing f at len → ⊥

-- each of the points below n has a rank
abbrev pub HaveRanks : (ℕ → ℕ → Type 0) → ℕ → Type 0
HaveRanks f n = (y : ℕ) → y < n → (r : ℕ) × IsRank f y r

-- both tables have a place for each of n points
abbrev pub Room : ℕ → List ℕ → List ℕ → Type 0
Room n ranks ring = (n ≤ length ranks) × (n ≤ length ring)

-- one of the tables has fewer places than there are points
abbrev pub Short : ℕ → List ℕ → List ℕ → Type 0
Short n ranks ring = (length ranks < n) ⊎ (length ring < n)

-- each place from k on holds in t what it held in s
abbrev pub SameFrom : ℕ → List ℕ → List ℕ → Type 0
SameFrom k s t = (i : ℕ) → k ≤ i → slice_index t i ≡ slice_index s i

-- there is no ring, and t, which was s, holds the ranks of the points below n, of which top is the greatest (0 for no point)
pub record Ranked (f : ℕ → ℕ → Type 0) (n top : ℕ) (s t : List ℕ) : Type 0 where
  pub free : NoRing f
  pub ranks : (y : ℕ) → y < n → IsRank f y (slice_index t y)
  pub most : (y : ℕ) → y < n → slice_index t y ≤ top
  pub peak : 0 < n → (y : ℕ) × (y < n) × (slice_index t y ≡ top)
  pub none : n ≡ 0 → top ≡ 0
  pub rest : SameFrom n s t

-- v, which was u, begins with a ring of len points, and t, which was s, with n zeros
pub record Ringed (f : ℕ → ℕ → Type 0) (n len : ℕ) (s t u v : List ℕ) : Type 0 where
  pub ring : IsRing f (λ i. slice_index v i) len
  pub short : len ≤ n
  pub ring_rest : SameFrom len u v
  pub zeros : (y : ℕ) → y < n → slice_index t y ≡ 0
  pub rest : SameFrom n s t

-- what each answer says of n points that f relates, if the ranks went from s to t and the ring table from u to v
abbrev pub Answered : (ℕ → ℕ → Type 0) → ℕ → List ℕ → List ℕ → List ℕ → List ℕ → Result ℕ RankFault → Type 0
Answered f n s t u v (Ok top) = Room n s u × Ranked f n top s t × (v ≡ u)
Answered f n s t u v (Err Tables) = Short n s u × (t ≡ s) × (v ≡ u)
Answered f n s t u v (Err (Ring len)) = Room n s u × Ringed f n len s t u v
