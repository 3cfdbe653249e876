-- The ring of the triangle on one lane. Assumes nothing.
use Rattle.std.proofs.Common.{◌≡◌, ℕ, zero, suc, ◌+◌, ◌-◌, ◌<◌, ◌⊎◌, Bool, true, false, ◌||◌, cond, sym, refl, ap, ◌∙◌, subst, ⊎_elim, inl, inr, arith, eqb-true}
use Rattle.std.specs.Prelude.{◌==◌}
use Rattle.std.proofs.lemmas.Bool.{cases_eq}
use Rattle.ranking.specs.Graphs.{IsRing}

-- 1 on the ring of 48, 64 and 80, 0 before it and 2 behind it; and the next of the ring
abbrev pub side : ℕ → ℕ
side x = cond (x == 48 || (x == 64 || x == 80)) 1 (cond (x == 0 || (x == 16 || x == 32)) 0 2)

abbrev pub round : ℕ → ℕ
round x = cond (x == 48) 64 (cond (x == 64) 80 48)

abbrev OneOf : ℕ → Type 0
OneOf x = (x ≡ 48) ⊎ ((x ≡ 64) ⊎ (x ≡ 80))

-- how virtual channels follow one another: into the ring, along it or out of it
pub record Sides (f : ℕ → ℕ → Type 0) : Type 0 where
  pub entered : (x y : ℕ) → f x y → 0 < side y
  pub left : (x y : ℕ) → f x y → side x < 2
  pub next : (x y : ℕ) → f x y → side x ≡ 1 → side y ≡ 1 → y ≡ round x

one_of : (x : ℕ) → side x ≡ 1 → OneOf x
one_of x e =
    ⊎_elim (λ (a : x ≡ 48). inl a)
    (λ (na : x ≡ 48 → ⊥).
    ⊎_elim (λ (b : x ≡ 64). inr (inl b))
    (λ (nb : x ≡ 64 → ⊥).
    ⊎_elim (λ (c : x ≡ 80). inr (inr c))
    (λ (nc : x ≡ 80 → ⊥). absurd (off x na nb nc e))
    (cases_eq x 80))
    (cases_eq x 64))
    (cases_eq x 48)
  where
    no_two : (b : Bool) → ◌≡◌ {A = ℕ} (cond b 0 2) 1 → ⊥
    no_two true e = omega (arith, e)
    no_two false e = omega (arith, e)

    first_of_three : (a b c d : Bool) → ◌≡◌ {A = ℕ} (cond (a || (b || c)) 1 (cond d 0 2)) 1 → (a ≡ true) ⊎ ((b ≡ true) ⊎ (c ≡ true))
    first_of_three true b c d e = inl refl
    first_of_three false true c d e = inr (inl refl)
    first_of_three false false true d e = inr (inr refl)
    first_of_three false false false d e = absurd (no_two d e)

    off : (x : ℕ) → (x ≡ 48 → ⊥) → (x ≡ 64 → ⊥) → (x ≡ 80 → ⊥) → side x ≡ 1 → ⊥
    off x na nb nc e =
        ⊎_elim (λ (a : x == 48 ≡ true). na (eqb-true x 48 a))
        (λ (d : (x == 64 ≡ true) ⊎ (x == 80 ≡ true)). ⊎_elim (λ (b : x == 64 ≡ true). nb (eqb-true x 64 b)) (λ (c : x == 80 ≡ true). nc (eqb-true x 80 c)) d)
        (first_of_three (x == 48) (x == 64) (x == 80) (x == 0 || (x == 16 || x == 32)) e)

-- one step and two steps lead elsewhere, and three back
abbrev ThreeRound : ℕ → Type 0
ThreeRound x = (x ≡ round x → ⊥) × (x ≡ round (round x) → ⊥) × (round (round (round x)) ≡ x)

three_round : (x : ℕ) → OneOf x → ThreeRound x
three_round x (inl e) = subst ThreeRound (sym e) ((λ (h : ◌≡◌ {A = ℕ} 48 64). omega (arith, h)), (λ (h : ◌≡◌ {A = ℕ} 48 80). omega (arith, h)), refl)
three_round x (inr (inl e)) = subst ThreeRound (sym e) ((λ (h : ◌≡◌ {A = ℕ} 64 80). omega (arith, h)), (λ (h : ◌≡◌ {A = ℕ} 64 48). omega (arith, h)), refl)
three_round x (inr (inr e)) = subst ThreeRound (sym e) ((λ (h : ◌≡◌ {A = ℕ} 80 48). omega (arith, h)), (λ (h : ◌≡◌ {A = ℕ} 80 64). omega (arith, h)), refl)

module _ (f : ℕ → ℕ → Type 0) (sides : Sides f) (at : ℕ → ℕ) (len : ℕ) (ring : IsRing f at len) where
  on_ring : (i : ℕ) → i < len → side (at i) ≡ 1
  on_ring i l =
      let low : side (at i) < 2 =
      ⊎_elim
      (λ (last : i ≡ len - 1). sides.left (at i) (at 0) (subst (λ n. f (at n) (at 0)) (sym last) ring.closes))
      (λ (other : i ≡ len - 1 → ⊥). sides.left (at i) (at (i + 1)) (ring.steps i (omega arith)))
      (cases_eq i (len - 1)) in
      let high : 0 < side (at i) = behind i l in
      omega arith
    where
      behind : (i : ℕ) → i < len → 0 < side (at i)
      behind zero l = sides.entered (at (len - 1)) (at 0) ring.closes
      behind (suc j) l =
          let next : j + 1 ≡ suc j = omega arith in
          subst (λ n. 0 < side (at n)) next (sides.entered (at j) (at (j + 1)) (ring.steps j (omega arith)))

  step : (i : ℕ) → i + 1 < len → at (i + 1) ≡ round (at i)
  step i l = sides.next (at i) (at (i + 1)) (ring.steps i l) (on_ring i (omega arith)) (on_ring (i + 1) l)

  close : at 0 ≡ round (at (len - 1))
  close = let some = ring.some in sides.next (at (len - 1)) (at 0) ring.closes (on_ring (len - 1) (omega arith)) (on_ring 0 (omega arith))

  pub three : len ≡ 3
  three =
      let some = ring.some in
      let x = at 0 in
      let turn = three_round (at 0) (one_of (at 0) (on_ring 0 (omega arith))) in
      ⊎_elim
      (λ (one : len ≡ 1). absurd (turn.0 (close ∙ ap (λ n. round (at (n - 1))) one)))
      (λ (not_one : len ≡ 1 → ⊥).
      let first : at 1 ≡ round (at 0) = step 0 (omega arith) in
      ⊎_elim
      (λ (two : len ≡ 2). absurd (turn.1 (close ∙ ap (λ n. round (at (n - 1))) two ∙ ap round first)))
      (λ (not_two : len ≡ 2 → ⊥).
      let second : at 2 ≡ round (at 1) = step 1 (omega arith) in
      ⊎_elim
      (λ (is : len ≡ 3). is)
      (λ (not_three : len ≡ 3 → ⊥).
      let third : at 3 ≡ round (at 2) = step 2 (omega arith) in
      let again : at 3 ≡ at 0 = third ∙ ap round (second ∙ ap round first) ∙ turn.2 in
      absurd (let z = ring.apart 3 0 (omega arith) (omega arith) again in omega arith))
      (cases_eq len 3))
      (cases_eq len 2))
      (cases_eq len 1)

  pub turned :
      ((at 0 ≡ 48) × (at 1 ≡ 64) × (at 2 ≡ 80)) ⊎ ((at 0 ≡ 64) × (at 1 ≡ 80) × (at 2 ≡ 48)) ⊎ ((at 0 ≡ 80) × (at 1 ≡ 48) × (at 2 ≡ 64))
  turned =
      let long = three in
      let first : at 1 ≡ round (at 0) = step 0 (omega arith) in
      let second : at 2 ≡ round (round (at 0)) = step 1 (omega arith) ∙ ap round first in
      from (at 0) (at 1) (at 2) first second (one_of (at 0) (on_ring 0 (omega arith)))
    where
      from : (x y z : ℕ) → y ≡ round x → z ≡ round (round x) → OneOf x → ((x ≡ 48) × (y ≡ 64) × (z ≡ 80)) ⊎ ((x ≡ 64) × (y ≡ 80) × (z ≡ 48)) ⊎ ((x ≡ 80) × (y ≡ 48) × (z ≡ 64))
      from x y z a b (inl e) = inl (e, a ∙ ap round e, b ∙ ap (λ n. round (round n)) e)
      from x y z a b (inr (inl e)) = inr (inl (e, a ∙ ap round e, b ∙ ap (λ n. round (round n)) e))
      from x y z a b (inr (inr e)) = inr (inr (e, a ∙ ap round e, b ∙ ap (λ n. round (round n)) e))
