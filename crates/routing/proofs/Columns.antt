-- How a column of a distance table grows. Assumes nothing.
use Rattle.std.proofs.Common.{◌≡◌, ℕ, ◌+◌, ◌*◌, ◌/◌, ◌%◌, ◌<◌, ◌≤◌, Bool, true, false, ◌⊎◌, List, length, set, sym, refl, ap, ◌∙◌, subst, inl, inr, ⊎_elim, mul_comm, arith}
use Rattle.std.proofs.lemmas.Nat.{mul-add-lt, div-mul-add, mod-mul-add}
use Rattle.std.proofs.lemmas.List.{get_or-set_same, get_or-set_other}
use Rattle.std.proofs.lemmas.Bool.{cases_eq, cases_Bool, true≢false}
use Rattle.routing.specs.Ways.{far, Beside, Grown}

-- a pair's place lies in the table
pub pair_below : (n w v : ℕ) → w < n → v < n → n * w + v < n * n
pair_below n w v h l = omega (arith, mul-add-lt w n v n h l)

-- a place is of one pair
pub same_pair : (n w v a b : ℕ) → v < n → b < n → n * w + v ≡ n * a + b → (w ≡ a) × (v ≡ b)
same_pair n w v a b low high e =
    let f : w * n + v ≡ a * n + b = ap (λ x. x + v) (mul_comm w n) ∙ e ∙ ap (λ x. x + b) (mul_comm n a) in (
      sym (div-mul-add w n v low) ∙ ap (λ x. x / n) f ∙ div-mul-add a n b high,
      sym (mod-mul-add w n v low) ∙ ap (λ x. x % n) f ∙ mod-mul-add a n b high,
    )

-- what a write to the column of v leaves
pub far_set_same : (n v u x : ℕ) (t : List ℕ) → u < n → v < n → n * n ≤ length t → far n v (set t (n * u + v) x) u ≡ x
far_set_same n v u x t h l long = get_or-set_same t (n * u + v) x 0 (omega (arith, pair_below n u v h l))

pub far_set_other : (n v u x : ℕ) (t : List ℕ) → v < n → (w : ℕ) → (w ≡ u → ⊥) → far n v (set t (n * u + v) x) w ≡ far n v t w
far_set_other n v u x t l w ne = get_or-set_other t (n * u + v) (n * w + v) x 0 (λ e. ne (same_pair n w v u v l l e).0)

pub beside_set : (n v u x : ℕ) (t : List ℕ) → u < n → Beside n v t (set t (n * u + v) x)
beside_set n v u x t h k off = get_or-set_other t (n * u + v) k x 0 (λ e. off u h e)

pub beside_join : (n v : ℕ) (a b c : List ℕ) → Beside n v a b → Beside n v b c → Beside n v a c
beside_join n v a b c p q k off = q k off ∙ p k off

-- a column that is not v's is as it was
pub beside_far : (n v u w : ℕ) (old new : List ℕ) → v < n → u < n → (u ≡ v → ⊥) → Beside n v old new → far n u new w ≡ far n u old w
beside_far n v u w old new l h ne same = same (n * w + u) (λ a _ e. ne (same_pair n w u a v h l e).1)

module _ (n v d : ℕ) where
  pub grown_none : (pass : ℕ → Type 0) (t : List ℕ) → Grown n v d pass t t false
  grown_none pass t = record {
    beside = λ k off. refl;
    column = λ w h. inl refl;
    some = λ e. absurd (true≢false (sym e));
    none = λ e w h. refl;
  }

  pub grown_set : (pass : ℕ → Type 0) (t : List ℕ) (u : ℕ) → u < n → v < n → n * n ≤ length t → far n v t u ≡ 255 → pass u → Grown n v d pass t (set t (n * u + v) d) true
  grown_set pass t u h l long had ok =
      let now' = far_set_same n v u d t h l long in
      record {
        beside = beside_set n v u d t h;
        column = λ w _.
            ⊎_elim
            (λ (e : w ≡ u). inr (ap (far n v t) e ∙ had, ap (far n v (set t (n * u + v) d)) e ∙ now', subst pass (sym e) ok))
            (λ (ne : w ≡ u → ⊥). inl (far_set_other n v u d t l w ne))
            (cases_eq w u);
        some = λ e. (u, h, had, now');
        none = λ e. absurd (true≢false e);
      }

  pub grown_weaken : (pass other : ℕ → Type 0) (old new : List ℕ) (found : Bool) → ((w : ℕ) → pass w → other w) → Grown n v d pass old new found → Grown n v d other old new found
  grown_weaken pass other old new found f g =
      record {
        beside = g.beside;
        column = λ w h.
            ⊎_elim
            (λ (e : far n v new w ≡ far n v old w). inl e)
            (λ (p : (far n v old w ≡ 255) × (far n v new w ≡ d) × pass w). inr (p.0, p.1, f w p.2))
            (g.column w h);
        some = g.some;
        none = g.none;
      }

  -- two steps are one: h says whether one of them found a node
  module _ (pass : ℕ → Type 0) (a b c : List ℕ) (f g h : Bool) (p : Grown n v d pass a b f) (q : Grown n v d pass b c g) (yes' : g ≡ true → h ≡ true) (no' : g ≡ false → h ≡ f) where
    -- who has no way after the first step had none before
    had : (w : ℕ) → w < n → far n v b w ≡ 255 → far n v a w ≡ 255
    had w l e =
        ⊎_elim
        (λ (same : far n v b w ≡ far n v a w). sym same ∙ e)
        (λ (grew : (far n v a w ≡ 255) × (far n v b w ≡ d) × pass w). grew.0)
        (p.column w l)

    join_column : (w : ℕ) → w < n → (far n v c w ≡ far n v a w) ⊎ ((far n v a w ≡ 255) × (far n v c w ≡ d) × pass w)
    join_column w l =
        ⊎_elim
        (λ (same : far n v c w ≡ far n v b w).
        ⊎_elim
        (λ (e : far n v b w ≡ far n v a w). inl (same ∙ e))
        (λ (grew : (far n v a w ≡ 255) × (far n v b w ≡ d) × pass w). inr (grew.0, same ∙ grew.1, grew.2))
        (p.column w l))
        (λ (grew : (far n v b w ≡ 255) × (far n v c w ≡ d) × pass w). inr (had w l grew.0, grew.1, grew.2))
        (q.column w l)

    pub grown_join : Grown n v d pass a c h
    grown_join = record {
      beside = beside_join n v a b c p.beside q.beside;
      column = join_column;
      some = λ e.
          ⊎_elim
          (λ (t : g ≡ true). let s = q.some t in (s.0, s.1, had s.0 s.1 s.2, s.3))
          (λ (t : g ≡ false). let s = p.some (sym (no' t) ∙ e) in (s.0, s.1, s.2, q.none t s.0 s.1 ∙ s.3))
          (cases_Bool g);
      none = λ e w l.
          ⊎_elim
          (λ (t : g ≡ true). absurd (true≢false (sym (yes' t) ∙ e)))
          (λ (t : g ≡ false). q.none t w l ∙ p.none (sym (no' t) ∙ e) w l)
          (cases_Bool g);
    }
