-- What a relation within n has if it has no ring: no long chain, an induction along its steps, and, where it can be decided, ranks.
use Rattle.std.proofs.Common.{◌≡◌, ℕ, zero, suc, ◌+◌, ◌-◌, ◌<◌, ◌⊎◌, sym, refl, ap, ◌∙◌, subst, inl, inr, arith}
use native.Mathlib.Decide.{ℕ_discrete, dec_lt}
use Rattle.ranking.specs.Graphs.{Within, ChainTo, IsRank, IsRing, NoRing, HaveRanks}
use Rattle.ranking.proofs.Pigeons.{pigeonhole}
use Rattle.ranking.proofs.Chains.{chain_most, ranks_rise}

-- some number below m has P
abbrev SomeBelow : (ℕ → Type 0) → ℕ → Type 0
SomeBelow P m = (i : ℕ) × (i < m) × P i

-- whether some number below m has P, where P can be decided
pub decide_below : (P : ℕ → Type 0) → ((i : ℕ) → Dec (P i)) → (m : ℕ) → SomeBelow P m ⊎ ((i : ℕ) → i < m → P i → ⊥)
decide_below P d zero = inr (λ i l. absurd (omega arith))
decide_below P d (suc m) = go (d m) (decide_below P d m)
  where
    go : Dec (P m) → SomeBelow P m ⊎ ((i : ℕ) → i < m → P i → ⊥) → SomeBelow P (suc m) ⊎ ((i : ℕ) → i < suc m → P i → ⊥)
    go (yes h) r = inl (m, omega arith, h)
    go (no h) (inl q) = inl (q.0, (let l = q.1 in omega arith), q.2)
    go (no h) (inr none) = inr (λ i l p. last i l p (ℕ_discrete i m))
      where
        last : (i : ℕ) → i < suc m → P i → Dec (i ≡ m) → ⊥
        last i l p (yes e) = h (subst P e p)
        last i l p (no ne) = none i (omega arith) p

-- at 0, at 1, .., at k, each followed by the next, end in y
record Path (f : ℕ → ℕ → Type 0) (at : ℕ → ℕ) (k y : ℕ) : Type 0 where
  steps : (i : ℕ) → i < k → f (at i) (at (i + 1))
  last : at k ≡ y

-- at, with y from m on
after : (ℕ → ℕ) → (m y i : ℕ) → Dec (i < m) → ℕ
after at m y i (yes l) = at i
after at m y i (no l) = y

path_from_chain : (f : ℕ → ℕ → Type 0) (k y : ℕ) → ChainTo f k y → (at : ℕ → ℕ) × Path f at k y
unfolding after
path_from_chain f zero y c = (λ i. y, record { steps = λ i l. absurd (omega arith); last = refl })
path_from_chain f (suc k) y c = longer (path_from_chain f k c.0 c.1)
  where
    longer : (at : ℕ → ℕ) × Path f at k c.0 → (at : ℕ → ℕ) × Path f at (suc k) y
    longer q =
        let at = q.0 in
        let new : ℕ → ℕ = λ i. after at (suc k) y i (dec_lt i (suc k)) in (
          new,
          record {
            steps = λ i l. step i l (dec_lt i (suc k)) (dec_lt (i + 1) (suc k));
            last = end (dec_lt (suc k) (suc k));
          },
        )
      where
        end : (d : Dec (suc k < suc k)) → after q.0 (suc k) y (suc k) d ≡ y
        end (yes l) = absurd (omega arith)
        end (no l) = refl

        step : (i : ℕ) → i < suc k → (d : Dec (i < suc k)) (e : Dec (i + 1 < suc k)) → f (after q.0 (suc k) y i d) (after q.0 (suc k) y (i + 1) e)
        step i l (yes a) (yes b) = q.1.steps i (omega arith)
        step i l (yes a) (no b) =
            let same : i ≡ k = omega arith in
            let here : c.0 ≡ q.0 i = sym q.1.last ∙ ap q.0 (sym same) in
            subst (λ z. f z y) here c.2
        step i l (no a) e = absurd (a l)

-- the first m points are distinct
abbrev Apart : (ℕ → ℕ) → ℕ → Type 0
Apart at m = (i j : ℕ) → i < m → j < m → at i ≡ at j → i ≡ j

-- a point of the first m comes again, and those before it are distinct
record Again (at : ℕ → ℕ) (m : ℕ) : Type 0 where
  first : ℕ
  again : ℕ
  ordered : first < again
  below : again < m
  same : at first ≡ at again
  apart : Apart at again

again_or_apart : (at : ℕ → ℕ) (m : ℕ) → Again at m ⊎ Apart at m
again_or_apart at zero = inr (λ i j l. absurd (omega arith))
again_or_apart at (suc m) = go (again_or_apart at m)
  where
    here : Apart at m → SomeBelow (λ i. at i ≡ at m) m ⊎ ((i : ℕ) → i < m → at i ≡ at m → ⊥) → Again at (suc m) ⊎ Apart at (suc m)
    here a (inl q) = inl (record { first = q.0; again = m; ordered = q.1; below = omega arith; same = q.2; apart = a })
    here a (inr none) = inr (λ i j il jl e. both i j il jl e (ℕ_discrete i m) (ℕ_discrete j m))
      where
        both : (i j : ℕ) → i < suc m → j < suc m → at i ≡ at j → Dec (i ≡ m) → Dec (j ≡ m) → i ≡ j
        both i j il jl e (yes p) (yes q) = p ∙ sym q
        both i j il jl e (yes p) (no q) = absurd (none j (omega arith) (sym e ∙ ap at p))
        both i j il jl e (no p) (yes q) = absurd (none i (omega arith) (e ∙ ap at q))
        both i j il jl e (no p) (no q) = a i j (omega arith) (omega arith) e

    go : Again at m ⊎ Apart at m → Again at (suc m) ⊎ Apart at (suc m)
    go (inl q) = inl (record { first = q.first; again = q.again; ordered = q.ordered; below = (let l = q.below in omega arith); same = q.same; apart = q.apart })
    go (inr a) = here a (decide_below (λ i. at i ≡ at m) (λ i. ℕ_discrete (at i) (at m)) m)

-- a point that comes again closes a ring
again_ring : (f : ℕ → ℕ → Type 0) (at : ℕ → ℕ) (k y : ℕ) → Path f at k y → (q : Again at (suc k)) → IsRing f (λ i. at (q.first + i)) (q.again - q.first)
again_ring f at k y p q =
    let i = q.first in
    let j = q.again in
    let l : i < j = q.ordered in
    let b : j < suc k = q.below in
    record {
      some = omega arith;
      steps = λ s h.
          let e : i + s + 1 ≡ i + (s + 1) = omega arith in
          subst (λ z. f (at (i + s)) (at z)) e (p.steps (i + s) (omega arith));
      closes =
          let a : j - 1 ≡ i + (j - i - 1) = omega arith in
          let e : at (j - 1 + 1) ≡ at (i + 0) = ap at (let z : j - 1 + 1 ≡ j = omega arith in z) ∙ sym q.same ∙ ap at (let z : i ≡ i + 0 = omega arith in z) in
          subst (λ z. f (at z) (at (i + 0))) a (subst (λ z. f (at (j - 1)) z) e (p.steps (j - 1) (omega arith)));
      apart = λ s t sl tl e. let z = q.apart (i + s) (i + t) (omega arith) (omega arith) e in omega arith;
    }

module _ (f : ℕ → ℕ → Type 0) (n : ℕ) (within : Within f n) where
  -- a chain of as many steps as there are points goes round a ring
  pub ring_from_long_chain : (y : ℕ) → y < n → ChainTo f n y → (at : ℕ → ℕ) × (len : ℕ) × IsRing f at len
  ring_from_long_chain y l c = found (path_from_chain f n y c)
    where
      found : (at : ℕ → ℕ) × Path f at n y → (at : ℕ → ℕ) × (len : ℕ) × IsRing f at len
      found q = go (again_or_apart at (suc n))
        where
          at : ℕ → ℕ
          at = q.0

          inside : (i : ℕ) → i < suc n → Dec (i < n) → at i < n
          inside i h (yes a) = (within (at i) (at (i + 1)) (q.1.steps i a)).0
          inside i h (no a) = let e : i ≡ n = omega arith in subst (λ z. z < n) (sym (ap at e ∙ q.1.last)) l

          go : Again at (suc n) ⊎ Apart at (suc n) → (at : ℕ → ℕ) × (len : ℕ) × IsRing f at len
          go (inl r) = (λ i. at (r.first + i), r.again - r.first, again_ring f at n y q.1 r)
          go (inr a) = absurd (let z = pigeonhole n at (suc n) (λ i h. inside i h (dec_lt i n)) a in omega arith)

  module _ (free : NoRing f) where
    pub no_long_chain : (y : ℕ) → y < n → ChainTo f n y → ⊥
    no_long_chain y l c = let q = ring_from_long_chain y l c in free q.0 q.1 q.2

    -- what holds of a point if it holds of its forerunners holds of every point below n
    pub induct_along : (P : ℕ → Type 0) → ((y : ℕ) → y < n → ((x : ℕ) → f x y → P x) → P y) → (y : ℕ) → y < n → P y
    induct_along P step y l = go n y l (no_long_chain y l)
      where
        go : (k y : ℕ) → y < n → (ChainTo f k y → ⊥) → P y
        go zero y l none = absurd (none tt)
        go (suc k) y l none = step y l (λ x h. go k x (within x y h).0 (λ c. none (x, c, h)))

    module _ (decide : (x y : ℕ) → Dec (f x y)) where
      decide_chain : (k y : ℕ) → Dec (ChainTo f k y)
      decide_chain zero y = yes tt
      decide_chain (suc k) y = go (decide_below (λ x. ChainTo f k x × f x y) (λ x. both (decide_chain k x) (decide x y)) n)
        where
          both : {x : ℕ} → Dec (ChainTo f k x) → Dec (f x y) → Dec (ChainTo f k x × f x y)
          both (yes a) (yes b) = yes (a, b)
          both (yes a) (no b) = no (λ h. b h.1)
          both (no a) b = no (λ h. a h.0)

          go : SomeBelow (λ x. ChainTo f k x × f x y) n ⊎ ((x : ℕ) → x < n → ChainTo f k x × f x y → ⊥) → Dec (ChainTo f (suc k) y)
          go (inl q) = yes (q.0, q.2.0, q.2.1)
          go (inr none) = no (λ c. none c.0 (within c.0 y c.2).0 (c.1, c.2))

      -- a relation within n that can be decided and has no ring has ranks
      pub ranks_from_no_ring : HaveRanks f n
      ranks_from_no_ring y l = go n (λ c. no_long_chain y l c)
        where
          go : (k : ℕ) → (ChainTo f k y → ⊥) → (r : ℕ) × IsRank f y r
          go zero none = absurd (none tt)
          go (suc k) none = at_k (go k) (decide_chain k y)
            where
              at_k : ((ChainTo f k y → ⊥) → (r : ℕ) × IsRank f y r) → Dec (ChainTo f k y) → (r : ℕ) × IsRank f y r
              at_k below (yes c) = (k, record { reached = c; longest = chain_most f k y none })
              at_k below (no c) = below c

      rank_of : (y : ℕ) → Dec (y < n) → ℕ
      rank_of y (yes l) = (ranks_from_no_ring y l).0
      rank_of y (no l) = 0

      -- it also has a number for each point that rises along every step
      pub rise_from_no_ring : (rank : ℕ → ℕ) × ((x y : ℕ) → f x y → rank x < rank y)
      unfolding rank_of
      rise_from_no_ring = (λ y. rank_of y (dec_lt y n), λ x y h. go x y h (dec_lt x n) (dec_lt y n))
        where
          go : (x y : ℕ) → f x y → (d : Dec (x < n)) (e : Dec (y < n)) → rank_of x d < rank_of y e
          go x y h (yes a) (yes b) = let p = ranks_from_no_ring x a in let q = ranks_from_no_ring y b in ranks_rise f x y p.0 q.0 p.1 q.1 h
          go x y h (yes a) (no b) = absurd (b (within x y h).1)
          go x y h (no a) e = absurd (a (within x y h).0)
