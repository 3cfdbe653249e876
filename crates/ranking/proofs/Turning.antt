-- One round: from point to point.
use Rattle.std.proofs.Common.{◌≡◌, ℕ, suc, ◌+◌, ◌<◌, ◌≤◌, List, get_or, sym, ap, ◌∙◌, subst, ⊎_elim, arith}
use native.Mathlib.Decide.{ℕ_discrete, dec_le}
use Rattle.ranking.specs.Graphs.{Within, ChainTo}
use Rattle.ranking.specs.Workings.{Level, Raised, Mid, Turned}
use Rattle.ranking.proofs.Chains.{chain_le}

module _ (f : ℕ → ℕ → Type 0) (n : ℕ) (within : Within f n) where
  pub mid_start : (r : ℕ) (t : List ℕ) → Level f n r t → Mid f n r 0 t t
  mid_start r t v =
      record {
        low = λ y l. omega (arith, v.low y l);
        reached = v.reached;
        final = v.final;
        done = λ z l. absurd (omega arith);
        fed = λ y l e. absurd (omega (arith, v.low y l));
        kept = λ y l h. h;
        grown = λ y l. omega arith;
      }

  -- x is ranked already
  pub mid_skip : (r x : ℕ) (s t : List ℕ) → Mid f n r x s t → get_or t x 0 < r → Mid f n r (x + 1) s t
  mid_skip r x s t m h =
      record {
        low = m.low;
        reached = m.reached;
        final = m.final;
        done = λ z l a. go z l a (ℕ_discrete z x);
        fed = m.fed;
        kept = m.kept;
        grown = m.grown;
      }
    where
      go : (z : ℕ) → z < x + 1 → r ≤ get_or t z 0 → Dec (z ≡ x) → (y : ℕ) → f z y → get_or t y 0 ≡ suc r
      go z l a (yes e) = absurd (omega (arith, ap (λ k. get_or t k 0) e))
      go z l a (no ne) = m.done z (omega arith) a

  -- a follower of a point that ends a chain of r steps is not ranked below r
  alive : (r x : ℕ) (s t : List ℕ) → Mid f n r x s t → (z y : ℕ) → r ≤ get_or t z 0 → f z y → r ≤ get_or t y 0
  alive r x s t m z y a h = go (dec_le r (get_or t y 0))
    where
      go : Dec (r ≤ get_or t y 0) → r ≤ get_or t y 0
      go (yes l) = l
      go (no l) =
          let w = within z y h in
          absurd (m.final y w.1 (omega arith) (chain_le f (suc (get_or t y 0)) (suc r) y (omega arith) (z, chain_le f r (get_or t z 0) z a (m.reached z w.0), h)))

  -- the followers of x are raised
  pub mid_raise : (r x : ℕ) (s t u : List ℕ) → x < n → Mid f n r x s t → r ≤ get_or t x 0 → Raised f x (r + 1) t u → Mid f n r (x + 1) s u
  mid_raise r x s t u xl m a d =
      record {
        low = λ y l. ⊎_elim (λ e. omega (arith, m.low y l)) (λ e. omega arith) (d.only y);
        reached = λ y l. ⊎_elim (λ e. subst (λ k. ChainTo f k y) (sym e) (m.reached y l)) (λ e. let k : suc r ≡ get_or u y 0 = omega arith in subst (λ k. ChainTo f k y) k (x, chain_le f r (get_or t x 0) x a (m.reached x xl), e.1)) (d.only y);
        final = λ y l h. ⊎_elim (λ e. subst (λ k. k < r → ChainTo f (suc k) y → ⊥) (sym e) (m.final y l) h) (λ e. absurd (omega arith)) (d.only y);
        done = λ z l b y h. go z l b y h (ℕ_discrete z x);
        fed = λ y l e. ⊎_elim (λ o. let p = m.fed y l (sym o ∙ e) in (p.0, p.1, up p.0 p.2, p.3)) (λ o. (x, xl, up x a, o.1)) (d.only y);
        kept = λ y l h. m.kept y l (down y h);
        grown = λ y l. ⊎_elim (λ e. omega (arith, m.grown y l)) (λ e. omega (arith, m.grown y l, m.low y l)) (d.only y);
      }
    where
      up : (z : ℕ) → r ≤ get_or t z 0 → r ≤ get_or u z 0
      up z h = ⊎_elim (λ e. omega arith) (λ e. omega arith) (d.only z)

      down : (z : ℕ) → r ≤ get_or u z 0 → r ≤ get_or t z 0
      down z h = ⊎_elim (λ e. omega arith) (λ e. alive r x s t m x z a e.1) (d.only z)

      go : (z : ℕ) → z < x + 1 → r ≤ get_or u z 0 → (y : ℕ) → f z y → Dec (z ≡ x) → get_or u y 0 ≡ suc r
      go z l b y h (yes e) = omega (arith, d.all y (subst (λ k. f k y) e h))
      go z l b y h (no ne) =
          let o : get_or t y 0 ≡ suc r = m.done z (omega arith) (down z b) y h in
          ⊎_elim (λ e. e ∙ o) (λ e. omega arith) (d.only y)

  pub mid_end : (r : ℕ) (s t : List ℕ) (x : ℕ) → n ≤ x → Mid f n r x s t → Turned f n r s t
  mid_end r s t past n≤past m =
      record {
        level = record { low = m.low; reached = m.reached; final = λ y l h c. go y l h c (ℕ_discrete (get_or t y 0) r) };
        fed = m.fed;
        kept = m.kept;
        grown = m.grown;
      }
    where
      -- a forerunner of y that ends a chain of r steps would have raised y
      top : (y : ℕ) → get_or t y 0 ≡ r → ChainTo f (suc r) y → ⊥
      top y e c =
          let x = c.0 in
          let w = within x y c.2 in
          let go_x : Dec (r ≤ get_or t x 0) → ⊥ = elim [
            | yes a ↦ omega (arith, m.done x (omega arith) a y c.2)
            | no a ↦ m.final x w.0 (omega arith) (chain_le f (suc (get_or t x 0)) r x (omega arith) c.1)
          ] in
          go_x (dec_le r (get_or t x 0))

      go : (y : ℕ) → y < n → get_or t y 0 < suc r → ChainTo f (suc (get_or t y 0)) y → Dec (get_or t y 0 ≡ r) → ⊥
      go y l h c (yes e) = top y e (subst (λ k. ChainTo f (suc k) y) e c)
      go y l h c (no ne) = m.final y l (omega arith) c
