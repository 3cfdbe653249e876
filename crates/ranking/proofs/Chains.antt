-- Chains, ranks and rings of any relation.
use Rattle.std.proofs.Common.{◌≡◌, ℕ, zero, suc, ◌+◌, ◌-◌, ◌<◌, ◌≤◌, subst, add-one, arith}
use native.Mathlib.Decide.{dec_le}
use Rattle.ranking.specs.Graphs.{Within, ChainTo, IsRank, IsRing, NoRing, HaveRanks}
use Rattle.ranking.proofs.Pigeons.{ring_within}

module _ (f : ℕ → ℕ → Type 0) where
  -- a chain has each shorter one at its end
  chain_shorter : (k y : ℕ) → ChainTo f (suc k) y → ChainTo f k y
  chain_shorter zero y c = tt
  chain_shorter (suc k) y c = (c.0, chain_shorter k c.0 c.1, c.2)

  chain_less : (d k y : ℕ) → ChainTo f (k + d) y → ChainTo f k y
  chain_less zero k y c = let e : k + zero ≡ k = omega arith in subst (λ m. ChainTo f m y) e c
  chain_less (suc d) k y c =
      let e : k + suc d ≡ suc (k + d) = omega arith in
      chain_less d k y (chain_shorter (k + d) y (subst (λ m. ChainTo f m y) e c))

  pub chain_le : (j k y : ℕ) → j ≤ k → ChainTo f k y → ChainTo f j y
  chain_le j k y l c = let e : k ≡ j + (k - j) = omega arith in chain_less (k - j) j y (subst (λ m. ChainTo f m y) e c)

  -- where no chain of r + 1 steps ends in y, none has more than r
  pub chain_most : (r y : ℕ) → (ChainTo f (suc r) y → ⊥) → (k : ℕ) → ChainTo f k y → k ≤ r
  chain_most r y no_more k c = go (dec_le k r)
    where
      go : Dec (k ≤ r) → k ≤ r
      go (yes h) = h
      go (no h) = absurd (no_more (chain_le (suc r) k y (omega arith) c))

  -- a point has one rank at most
  pub one_rank : (y r s : ℕ) → IsRank f y r → IsRank f y s → r ≡ s
  one_rank y r s a b = omega (arith, a.longest s b.reached, b.longest r a.reached)

  -- ranks rise along every step
  pub ranks_rise : (x y r s : ℕ) → IsRank f x r → IsRank f y s → f x y → r < s
  ranks_rise x y r s a b h = b.longest (suc r) (x, a.reached, h)

  -- a number that rises along every step rules out a ring
  module _ (rank : ℕ → ℕ) (rises : (x y : ℕ) → f x y → rank x < rank y) where
    climbs : (at : ℕ → ℕ) (len : ℕ) → IsRing f at len → (i : ℕ) → i < len → rank (at 0) + i ≤ rank (at i)
    climbs at len o zero l = omega arith
    climbs at len o (suc i) l =
        let h : f (at i) (at (suc i)) = subst (λ j. f (at i) (at j)) (add-one i) (o.steps i (omega arith)) in
        omega (arith, climbs at len o i (omega arith), rises (at i) (at (suc i)) h)

    pub no_ring_from_rise : NoRing f
    no_ring_from_rise at len o =
        let a : rank (at 0) + (len - 1) ≤ rank (at (len - 1)) = climbs at len o (len - 1) (omega (arith, o.some)) in
        let b : rank (at (len - 1)) < rank (at 0) = rises (at (len - 1)) (at 0) o.closes in
        omega arith

  -- chains of every length end in each point of a ring
  pub ring_endless : (at : ℕ → ℕ) (len : ℕ) → IsRing f at len → (k i : ℕ) → i < len → ChainTo f k (at i)
  ring_endless at len o zero i l = tt
  ring_endless at len o (suc k) zero l = (at (len - 1), ring_endless at len o k (len - 1) (omega arith), o.closes)
  ring_endless at len o (suc k) (suc i) l =
      let h : f (at i) (at (suc i)) = subst (λ j. f (at i) (at j)) (add-one i) (o.steps i (omega arith)) in
      (at i, ring_endless at len o k i (omega arith), h)

  -- no point of a ring has a rank
  pub ring_no_rank : (at : ℕ → ℕ) (len : ℕ) → IsRing f at len → (i r : ℕ) → i < len → IsRank f (at i) r → ⊥
  ring_no_rank at len o i r l k = omega (arith, k.longest (suc r) (ring_endless at len o (suc r) i l))

  -- where each point has a rank there is no ring
  pub no_ring_from_ranks : (n : ℕ) → Within f n → HaveRanks f n → NoRing f
  no_ring_from_ranks n within have at len o =
      let q = have (at 0) (ring_within f n within at len o 0 o.some) in
      ring_no_rank at len o 0 q.0 o.some q.1

-- where g relates all that f relates
module _ (f g : ℕ → ℕ → Type 0) (under : (x y : ℕ) → f x y → g x y) where
  pub chain_under : (k y : ℕ) → ChainTo f k y → ChainTo g k y
  chain_under zero y c = tt
  chain_under (suc k) y c = (c.0, chain_under k c.0 c.1, under c.0 y c.2)

  pub ring_under : (at : ℕ → ℕ) (len : ℕ) → IsRing f at len → IsRing g at len
  ring_under at len o =
      record {
        some = o.some;
        steps = λ i l. under (at i) (at (i + 1)) (o.steps i l);
        closes = under (at (len - 1)) (at 0) o.closes;
        apart = o.apart;
      }

  pub no_ring_under : NoRing g → NoRing f
  no_ring_under free at len o = free at len (ring_under at len o)

-- relations that relate the same have the same ranks
pub rank_same : (f g : ℕ → ℕ → Type 0) → ((x y : ℕ) → f x y → g x y) → ((x y : ℕ) → g x y → f x y) → (y r : ℕ) → IsRank f y r → IsRank g y r
rank_same f g to from y r k =
    record { reached = chain_under f g to r y k.reached; longest = λ j c. k.longest j (chain_under g f from j y c) }
