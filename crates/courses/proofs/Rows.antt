-- The packets of one path, read from its last queue, as the three calls change them. Assumes nothing.
use Rattle.std.proofs.Common.{◌≡◌, ℕ, ◌<◌, List, [], ◌∷◌, ◌++◌, sym, refl, ap, ◌∙◌, ⊎_elim, arith}
use Rattle.std.proofs.lemmas.List.{append_assoc}
use Rattle.courses.specs.Queues.{to, home, Rules}
use Rattle.courses.specs.Law.{ahead, backward}
use Rattle.courses.proofs.Ways.{Way, last, on, ahead_cases, ahead_here, off_path, going_of, same_to, not_both}

pub ahead_further : (x : ℕ) (xs : List ℕ) (z : ℕ) → 0 < ahead xs z → 0 < ahead (x ∷ xs) z
ahead_further x xs z h = ⊎_elim (λ s. omega (arith, s.1)) (λ s. omega (arith, s.1)) (ahead_cases x xs z)

pub row_same : {P : Type 0} (f g : ℕ → List P) (xs : List ℕ) → ((z : ℕ) → 0 < ahead xs z → g z ≡ f z) → backward g xs ≡ backward f xs
row_same f g [] same = refl
row_same f g (x ∷ xs) same =
    let front : backward g xs ≡ backward f xs = row_same f g xs (λ z h. same z (ahead_further x xs z h)) in
    let last : g x ≡ f x = same x (omega (arith, ahead_here x xs)) in
    cc

module _ {P : Type 0} {rules : Rules P} {count : ℕ} {p : P} (f g : ℕ → List P) where
  -- p comes last in the first queue
  pub row_enter : {s : ℕ} {xs : List ℕ} → Way rules count p s xs → g s ≡ f s ++ (p ∷ []) → ((z : ℕ) → 0 < ahead xs z → (z ≡ s → ⊥) → g z ≡ f z) → backward g xs ≡ backward f xs ++ (p ∷ [])
  row_enter (last {x = s} i e) pushed same = pushed
  row_enter (on {x = s} {y} {ys} i e r c) pushed same =
      let front : backward g ys ≡ backward f ys = row_same f g ys (λ z h. same z (ahead_further s ys z h) (λ t. off_path ys s z r h (sym t))) in
      cc (append_assoc (backward f ys) (f s) (p ∷ []))

  -- p goes on from x to y
  pub row_forward : {s : ℕ} {xs : List ℕ} → Way rules count p s xs → (x y : ℕ) → 0 < ahead xs x → rules.onward x p ≡ to y → f x ≡ p ∷ g x → g y ≡ f y ++ (p ∷ []) → ((z : ℕ) → (z ≡ x → ⊥) → (z ≡ y → ⊥) → g z ≡ f z) → backward g xs ≡ backward f xs
  row_forward (last {x = s} i e) x y here leads left pushed same =
      ⊎_elim (λ t. absurd (not_both (rules.onward x p) y leads (rw (sym t.0) e))) (λ t. absurd (omega (arith, t.1))) (ahead_cases s [] x)
  row_forward (on {x = s} {y = n} {ys} i e r c) x y here leads left pushed same =
      ⊎_elim
      (λ t.
      let next : n ≡ y = same_to (rules.onward x p) n y (rw (sym t.0) e) leads in
      let pushed' : g n ≡ f n ++ (p ∷ []) = cc in
      let front : backward g ys ≡ backward f ys ++ (p ∷ []) = row_enter c pushed' (λ z h ne. same z (λ u. off_path ys s z r h (t.0 ∙ sym u)) (λ u. ne (u ∙ sym next))) in
      cc (append_assoc (backward f ys) (p ∷ []) (g s)))
      (λ t.
      let k : 0 < ahead ys x = omega (arith, t.1) in
      let front : backward g ys ≡ backward f ys = row_forward c x y k leads left pushed same in
      let last : g s ≡ f s = same s t.0 (off_path ys s y r (going_of c x y k leads).on_path) in
      cc)
      (ahead_cases s ys x)

  -- p leaves the last queue
  pub row_home : {s : ℕ} {xs : List ℕ} → Way rules count p s xs → (x : ℕ) → 0 < ahead xs x → rules.onward x p ≡ home → f x ≡ p ∷ g x → ((z : ℕ) → (z ≡ x → ⊥) → g z ≡ f z) → backward f xs ≡ p ∷ backward g xs
  row_home (last {x = s} i e) x here ends left same =
      ⊎_elim (λ t. let e' : s ≡ x = t.0 in cc) (λ t. absurd (omega (arith, t.1))) (ahead_cases s [] x)
  row_home (on {x = s} {y = n} {ys} i e r c) x here ends left same =
      ⊎_elim (λ t. absurd (not_both (rules.onward x p) n (rw (sym t.0) e) ends))
      (λ t.
      let k : 0 < ahead ys x = omega (arith, t.1) in
      let front : backward f ys ≡ p ∷ backward g ys = row_home c x k ends left same in
      let last : g s ≡ f s = same s t.0 in
      ap (λ l. l ++ f s) front ∙ ap (λ l. p ∷ (backward g ys ++ l)) (sym last))
      (ahead_cases s ys x)
