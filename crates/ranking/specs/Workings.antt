-- For the proofs alone: what the steps of the ranking keep true of its tables. The contract of `rank` needs none of this.
use Rattle.std.specs.Prelude.{◌≡◌, ℕ, suc, ◌+◌, ◌-◌, ◌<◌, ◌≤◌, ◌⊎◌, List, slice_index}
use Rattle.ranking.specs.Graphs.{ChainTo, SameFrom}

-- each follower of x was raised to top, and nothing else
pub record Raised (f : ℕ → ℕ → Type 0) (x top : ℕ) (t u : List ℕ) : Type 0 where
  pub all : (y : ℕ) → f x y → slice_index u y ≡ top
  pub only : (y : ℕ) → (slice_index u y ≡ slice_index t y) ⊎ ((slice_index u y ≡ top) × f x y)

-- as round r begins: a place below r is a rank, and a point at r ends a chain of r steps
pub record Level (f : ℕ → ℕ → Type 0) (n r : ℕ) (t : List ℕ) : Type 0 where
  pub low : (y : ℕ) → y < n → slice_index t y ≤ r
  pub reached : (y : ℕ) → y < n → ChainTo f (slice_index t y) y
  pub final : (y : ℕ) → y < n → slice_index t y < r → ChainTo f (suc (slice_index t y)) y → ⊥

-- each point at top has a forerunner that stands at low or more
abbrev pub Fed : (ℕ → ℕ → Type 0) → ℕ → ℕ → ℕ → List ℕ → Type 0
Fed f n low top t = (y : ℕ) → y < n → slice_index t y ≡ top → (x : ℕ) × (x < n) × (low ≤ slice_index t x) × f x y

-- in round r, as x is looked at: the table was s as the round began, and is t
pub record Mid (f : ℕ → ℕ → Type 0) (n r x : ℕ) (s t : List ℕ) : Type 0 where
  pub low : (y : ℕ) → y < n → slice_index t y ≤ suc r
  pub reached : (y : ℕ) → y < n → ChainTo f (slice_index t y) y
  pub final : (y : ℕ) → y < n → slice_index t y < r → ChainTo f (suc (slice_index t y)) y → ⊥
  pub done : (z : ℕ) → z < x → r ≤ slice_index t z → (y : ℕ) → f z y → slice_index t y ≡ suc r
  pub fed : Fed f n r (suc r) t
  pub kept : (y : ℕ) → y < n → r ≤ slice_index t y → r ≤ slice_index s y
  pub grown : (y : ℕ) → y < n → slice_index s y ≤ slice_index t y

-- round r made t of s
pub record Turned (f : ℕ → ℕ → Type 0) (n r : ℕ) (s t : List ℕ) : Type 0 where
  pub level : Level f n (suc r) t
  pub fed : Fed f n r (suc r) t
  pub kept : (y : ℕ) → y < n → r ≤ slice_index t y → r ≤ slice_index s y
  pub grown : (y : ℕ) → y < n → slice_index s y ≤ slice_index t y

-- some point stands at top, and each that does has a forerunner there: no round ranks a further point
pub record Stuck (f : ℕ → ℕ → Type 0) (n top : ℕ) (t : List ℕ) : Type 0 where
  pub some : (y : ℕ) × (y < n) × (slice_index t y ≡ top)
  pub small : top ≤ n
  pub low : (y : ℕ) → y < n → slice_index t y ≤ top
  pub fed : Fed f n top top t

-- of the places in t that hold lo or more, one holds lo, one lo + 1, and so on up to hi
pub record Marked (n lo hi : ℕ) (t : List ℕ) : Type 0 where
  pub some : lo ≤ hi
  pub short : hi < lo + n
  pub low : (z : ℕ) → z < n → slice_index t z ≤ hi
  pub apart : (y z : ℕ) → y < n → z < n → lo ≤ slice_index t y → slice_index t y ≡ slice_index t z → y ≡ z
  pub onto : (m : ℕ) → lo ≤ m → m ≤ hi → (z : ℕ) × (z < n) × (slice_index t z ≡ m)

-- the points that are marked lo, .., hi in t are a ring, from the last to the first
pub record Closed (f : ℕ → ℕ → Type 0) (n lo hi : ℕ) (t : List ℕ) : Type 0 where
  pub marked : Marked n lo hi t
  pub links : (y z : ℕ) → y < n → z < n → lo ≤ slice_index t z → slice_index t y ≡ slice_index t z + 1 → f y z
  pub closes : (y z : ℕ) → y < n → z < n → slice_index t y ≡ lo → slice_index t z ≡ hi → f y z

-- each point below z that stands at lo or more in t is in v, at its distance from hi, and v is u from hi + 1 - lo on
pub record Gathered (z lo hi : ℕ) (t u v : List ℕ) : Type 0 where
  pub put : (y : ℕ) → y < z → lo ≤ slice_index t y → slice_index v (hi - slice_index t y) ≡ y
  pub rest : SameFrom (hi + 1 - lo) u v
