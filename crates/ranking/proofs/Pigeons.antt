-- Distinct numbers below n are at most n.
use Rattle.std.proofs.Common.{◌≡◌, ℕ, zero, suc, ◌+◌, ◌-◌, ◌<◌, ◌≤◌, Bool, true, false, cond, eqb, sym, refl, subst, arith, eq-eqb, ne_eqb}
use native.Mathlib.Decide.{ℕ_discrete}
use Rattle.ranking.specs.Graphs.{Within, IsRing}
use Rattle.ranking.proofs.Counts.{count, count_less, count_le}

-- v is at i for some i below m
abbrev hit : (ℕ → ℕ) → ℕ → ℕ → Bool
hit at zero v = false
hit at (suc m) v = cond (eqb (at m) v) true (hit at m v)

-- what is hit below m is hit below m + 1
hit_kept : (b c : Bool) → c ≡ true → cond b true c ≡ true
hit_kept true c h = refl
hit_kept false c h = h

-- what is not among the first m is not hit
not_hit : (at : ℕ → ℕ) (m v : ℕ) → ((i : ℕ) → i < m → at i ≡ v → ⊥) → hit at m v ≡ false
not_hit at zero v h = refl
not_hit at (suc m) v h = rw (ne_eqb (at m) v (h m (omega arith))) (not_hit at m v (λ i l. h i (omega arith)))

module _ (n : ℕ) (at : ℕ → ℕ) where
  filled : (m : ℕ) → ((i : ℕ) → i < m → at i < n) → ((i j : ℕ) → i < m → j < m → at i ≡ at j → i ≡ j) → m ≤ count (hit at m) n
  filled zero h d = omega arith
  filled (suc m) h d =
      let fresh : hit at m (at m) ≡ false = not_hit at m (at m) (λ i l e. omega (arith, d i m (omega arith) (omega arith) e)) in
      let here : hit at (suc m) (at m) ≡ true = rw (eq-eqb (at m) (at m) refl) in
      let more = count_less (hit at (suc m)) (hit at m) n (at m) (h m (omega arith)) (λ v l q. hit_kept (eqb (at m) v) (hit at m v) q) here fresh in
      let rest = filled m (λ i l. h i (omega arith)) (λ i j il jl. d i j (omega arith) (omega arith)) in
      omega arith

  -- m distinct numbers below n: m is at most n
  pub pigeonhole : (m : ℕ) → ((i : ℕ) → i < m → at i < n) → ((i j : ℕ) → i < m → j < m → at i ≡ at j → i ≡ j) → m ≤ n
  pigeonhole m h d = omega (arith, filled m h d, count_le (hit at m) n)

-- the points of a ring of a relation within n are below n
pub ring_within : (f : ℕ → ℕ → Type 0) (n : ℕ) → Within f n → (at : ℕ → ℕ) (len : ℕ) → IsRing f at len → (i : ℕ) → i < len → at i < n
ring_within f n within at len o i l = go (ℕ_discrete (i + 1) len)
  where
    go : Dec (i + 1 ≡ len) → at i < n
    go (yes e) =
        let same : i ≡ len - 1 = omega arith in
        subst (λ j. at j < n) (sym same) (within (at (len - 1)) (at 0) o.closes).0
    go (no ne) = (within (at i) (at (i + 1)) (o.steps i (omega arith))).0
