-- A path that passes no queue twice. Assumes nothing.
use Rattle.std.proofs.Common.{◌≡◌, ℕ, suc, ◌<◌, Bool, true, false, cond, eqb, ◌⊎◌, List, [], ◌∷◌, length, sym, refl, ap, ◌∙◌, subst, inl, inr, ⊎_elim, arith, eq-eqb, ne_eqb, eqb-true}
use Rattle.std.proofs.lemmas.Bool.{eqb-false}
use Rattle.std.specs.Prelude.{All}
use Rattle.std.proofs.lemmas.List.Elements.{All-head, All-tail}
use Rattle.courses.specs.Queues.{Onward, to, home, Rules}
use Rattle.courses.specs.Law.{Path, ends, goes, ahead, Once, Next, here}

-- a path over the queues below count that passes none twice
pub data Way {P : Type 0} (rules : Rules P) (count : ℕ) (p : P) : ℕ → List ℕ → Type 0 where
  last : {x : ℕ} → x < count → rules.onward x p ≡ home → Way rules count p x (x ∷ [])
  on : {x y : ℕ} {ys : List ℕ} → x < count → rules.onward x p ≡ to y → ahead ys x ≡ 0 → Way rules count p y ys → Way rules count p x (x ∷ ys)

pub way : {P : Type 0} {rules : Rules P} {count : ℕ} {p : P} {x : ℕ} {xs : List ℕ} → Path rules p x xs → All (λ y. y < count) xs → Once xs → Way rules count p x xs
way {count} {x} (ends e) inside once = last (All-head (λ y. y < count) x [] inside) e
way {count} (goes {x} {ys} e r) inside once = on (All-head (λ y. y < count) x ys inside) e once.0 (way r (All-tail (λ y. y < count) x ys inside) once.1)

-- a queue is the first of a path or not
pub ahead_cases : (x : ℕ) (xs : List ℕ) (z : ℕ) → ((x ≡ z) × (ahead (x ∷ xs) z ≡ suc (length xs))) ⊎ ((x ≡ z → ⊥) × (ahead (x ∷ xs) z ≡ ahead xs z))
ahead_cases x xs z = go (eqb x z) refl
  where
    go : (b : Bool) → eqb x z ≡ b → ((x ≡ z) × (ahead (x ∷ xs) z ≡ suc (length xs))) ⊎ ((x ≡ z → ⊥) × (ahead (x ∷ xs) z ≡ ahead xs z))
    go true e = inl (eqb-true x z e, ap (λ t. cond t (suc (length xs)) (ahead xs z)) e)
    go false e = inr (eqb-false x z e, ap (λ t. cond t (suc (length xs)) (ahead xs z)) e)

pub ahead_here : (x : ℕ) (xs : List ℕ) → ahead (x ∷ xs) x ≡ suc (length xs)
ahead_here x xs = ap (λ t. cond t (suc (length xs)) (ahead xs x)) (eq-eqb x x refl)

pub ahead_past : (x : ℕ) (xs : List ℕ) (z : ℕ) → (x ≡ z → ⊥) → ahead (x ∷ xs) z ≡ ahead xs z
ahead_past x xs z ne = ap (λ t. cond t (suc (length xs)) (ahead xs z)) (ne_eqb x z ne)

-- a queue of a path is none that does not come on it
pub off_path : (xs : List ℕ) (x z : ℕ) → ahead xs x ≡ 0 → 0 < ahead xs z → x ≡ z → ⊥
off_path xs x z none some e = omega (arith, ap (ahead xs) e)

-- one packet goes on to one place
pub same_to : (o : Onward) (y z : ℕ) → o ≡ to y → o ≡ to z → y ≡ z
same_to o y z p q = cc

pub not_both : (o : Onward) (y : ℕ) → o ≡ to y → o ≡ home → ⊥
not_both o y p q = let z : ◌≡◌ {A = ℕ} 0 1 = cc in omega arith

-- y comes right after x on a path, and has one hop less ahead
pub record Going (count : ℕ) (xs : List ℕ) (x y : ℕ) : Type 0 where
  pub below : y < count
  pub on_path : 0 < ahead xs y
  pub one_less : ahead xs x ≡ suc (ahead xs y)

-- so it is another queue
pub apart : (count : ℕ) (xs : List ℕ) (x y : ℕ) → Going count xs x y → y ≡ x → ⊥
apart count xs x y g e = omega (arith, g.one_less, ap (ahead xs) e)

module _ {P : Type 0} {rules : Rules P} {count : ℕ} {p : P} where
  pub begins : {x : ℕ} {xs : List ℕ} → Way rules count p x xs → ahead xs x ≡ length xs
  begins (last {x} i e) = ahead_here x []
  begins (on {x} {y} {ys} i e r c) = ahead_here x ys

  pub some_ahead : {x : ℕ} {xs : List ℕ} → Way rules count p x xs → 0 < ahead xs x
  some_ahead (last {x} i e) = omega (arith, ahead_here x [])
  some_ahead (on {x} {y} {ys} i e r c) = omega (arith, ahead_here x ys)

  pub inside : {x : ℕ} {xs : List ℕ} → Way rules count p x xs → x < count
  inside (last i e) = i
  inside (on i e r c) = i

  pub follows_first : {x y : ℕ} {ys : List ℕ} → Way rules count p y ys → Next x y (x ∷ ys)
  follows_first (last i e) = here
  follows_first (on i e r c) = here

  -- from a queue of its path the packet is home, or goes on to the next
  pub here_or_on : {s : ℕ} {xs : List ℕ} → Way rules count p s xs → (x : ℕ) → 0 < ahead xs x → ((rules.onward x p ≡ home) × (ahead xs x ≡ 1)) ⊎ ((y : ℕ) × (rules.onward x p ≡ to y) × Going count xs x y)
  here_or_on (last {x = s} i e) x h = ⊎_elim (λ t. inl (rw (sym t.0) e, t.1)) (λ t. absurd (omega (arith, t.1))) (ahead_cases s [] x)
  here_or_on (on {x = s} {y} {ys} i e r c) x h = ⊎_elim first_here (further (λ k. here_or_on c x k)) (ahead_cases s ys x)
    where
      first_here : (s ≡ x) × (ahead (s ∷ ys) x ≡ suc (length ys)) → ((rules.onward x p ≡ home) × (ahead (s ∷ ys) x ≡ 1)) ⊎ ((z : ℕ) × (rules.onward x p ≡ to z) × Going count (s ∷ ys) x z)
      first_here t =
          let same : ahead (s ∷ ys) y ≡ ahead ys y = ahead_past s ys y (off_path ys s y r (some_ahead c)) in
          inr (
            y,
            rw (sym t.0) e,
            record {
              below = inside c;
              on_path = omega (arith, some_ahead c);
              one_less = omega (arith, t.1, begins c);
            },
          )

      further : (0 < ahead ys x → ((rules.onward x p ≡ home) × (ahead ys x ≡ 1)) ⊎ ((z : ℕ) × (rules.onward x p ≡ to z) × Going count ys x z)) → (s ≡ x → ⊥) × (ahead (s ∷ ys) x ≡ ahead ys x) → ((rules.onward x p ≡ home) × (ahead (s ∷ ys) x ≡ 1)) ⊎ ((z : ℕ) × (rules.onward x p ≡ to z) × Going count (s ∷ ys) x z)
      further deeper t =
          let k : 0 < ahead ys x = omega (arith, t.1) in
          ⊎_elim (λ u. inl (u.0, t.1 ∙ u.1))
          (λ u.
          let same : ahead (s ∷ ys) u.0 ≡ ahead ys u.0 = ahead_past s ys u.0 (off_path ys s u.0 r u.2.on_path) in
          inr (
            u.0,
            u.1,
            record {
              below = u.2.below;
              on_path = omega (arith, u.2.on_path);
              one_less = omega (arith, t.1, u.2.one_less);
            },
          ))
          (deeper k)

  pub going_of : {s : ℕ} {xs : List ℕ} → Way rules count p s xs → (x y : ℕ) → 0 < ahead xs x → rules.onward x p ≡ to y → Going count xs x y
  going_of {s} {xs} c x y h leads =
      ⊎_elim (λ t. absurd (not_both (rules.onward x p) y leads t.0))
      (λ t. subst (Going count xs x) (same_to (rules.onward x p) t.0 y t.1 leads) t.2)
      (here_or_on c x h)

  pub home_of : {s : ℕ} {xs : List ℕ} → Way rules count p s xs → (x : ℕ) → 0 < ahead xs x → rules.onward x p ≡ home → ahead xs x ≡ 1
  home_of c x h e = ⊎_elim (λ t. t.1) (λ t. absurd (not_both (rules.onward x p) t.0 t.1 e)) (here_or_on c x h)
