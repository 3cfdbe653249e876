-- More numbers than there are values: one comes twice. Assumes nothing.
use Rattle.std.proofs.Common.{◌≡◌, ℕ, zero, suc, ◌<◌, ◌≤◌, Bool, true, false, eqb, ◌||◌, ◌⊎◌, refl, inl, inr, ⊎_elim, arith, eq-eqb, ne_eqb}
use Rattle.std.proofs.lemmas.Bool.{cases_eq, or_right}
use Rattle.ranking.proofs.Counts.{count, count_le, count_less}

-- v is at i for some i below m
abbrev hit : (ℕ → ℕ) → ℕ → ℕ → Bool
hit at zero v = false
hit at (suc m) v = eqb (at m) v || hit at m v

module _ (at : ℕ → ℕ) where
  -- v is among the first m, or is not hit
  found : (m v : ℕ) → ((i : ℕ) × (i < m) × (at i ≡ v)) ⊎ (hit at m v ≡ false)
  found zero v = inr refl
  found (suc m) v =
      ⊎_elim
      (λ (e : at m ≡ v). inl (m, omega arith, e))
      (λ (ne : at m ≡ v → ⊥).
      ⊎_elim
      (λ (s : (i : ℕ) × (i < m) × (at i ≡ v)). inl (s.0, omega (arith, s.1), s.2))
      (λ (none : hit at m v ≡ false). inr (rw (ne_eqb (at m) v ne) none))
      (found m v))
      (cases_eq (at m) v)

  module _ (n : ℕ) where
    -- the first m are below n: one comes twice, or as many numbers below n are hit
    twice_or : (m : ℕ) → ((i : ℕ) → i < m → at i < n) → ((i : ℕ) × (j : ℕ) × (i < j) × (j < m) × (at i ≡ at j)) ⊎ (m ≤ count (hit at m) n)
    twice_or zero h = inr (omega arith)
    twice_or (suc m) h =
        ⊎_elim
        (λ (s : (i : ℕ) × (j : ℕ) × (i < j) × (j < m) × (at i ≡ at j)). inl (s.0, s.1, s.2, omega (arith, s.3), s.4))
        (λ (all : m ≤ count (hit at m) n).
        ⊎_elim
        (λ (s : (i : ℕ) × (i < m) × (at i ≡ at m)). inl (s.0, m, s.1, omega arith, s.2))
        (λ (fresh : hit at m (at m) ≡ false).
        let here : hit at (suc m) (at m) ≡ true = rw (eq-eqb (at m) (at m) refl) in
        let more = count_less (hit at (suc m)) (hit at m) n (at m) (h m (omega arith)) (λ v l q. or_right (eqb (at m) v) (hit at m v) q) here fresh in
        inr (omega arith))
        (found m (at m)))
        (twice_or m (λ i l. h i (omega arith)))

    -- of more than n numbers below n one comes twice
    pub twice : (m : ℕ) → n < m → ((i : ℕ) → i < m → at i < n) → (i : ℕ) × (j : ℕ) × (i < j) × (j < m) × (at i ≡ at j)
    twice m more h =
        ⊎_elim
        (λ (s : (i : ℕ) × (j : ℕ) × (i < j) × (j < m) × (at i ≡ at j)). s)
        (λ (all : m ≤ count (hit at m) n). absurd (omega (arith, count_le (hit at m) n)))
        (twice_or m h)
