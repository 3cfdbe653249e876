-- Tables that are all 0 but for some places. Assumes nothing.
use Rattle.std.proofs.Common.{◌≡◌, ℕ, ◌<◌, ◌≤◌, ◌⊎◌, Bool, true, false, ◌&&◌, cond, List, [], ◌∷◌, length, replicate, get_or, set, ◌≢◌, slice_index, sym, refl, ap, ◌∙◌, subst, ⊎_elim, inl, inr, arith, ltb-true, eqb-true, eq-eqb, ne_eqb, get_or-set_same, get_or-set_other}
use Rattle.std.specs.Prelude.{nat_lt, nat_le, ◌==◌, slice_set}
use Rattle.std.proofs.lemmas.Bool.{leb-true, cases_Bool, cases_eq, cases_lt, and_parts, cond-true, cond-false}
use Rattle.std.proofs.lemmas.List.{length-replicate, length-set, get_or-replicate, get_or_past, set-get_or, ext_get_or}
use Rattle.examples.specs.Builds.{zeros_but}

-- what such a table holds
abbrev pub val : List (ℕ × ℕ) → ℕ → ℕ
val [] k = 0
val (w ∷ ws) k = cond (k == w.0) w.1 (val ws k)

-- the places are below n
abbrev pub inside : ℕ → List (ℕ × ℕ) → Bool
inside n [] = true
inside n (w ∷ ws) = nat_lt w.0 n && inside n ws

-- what is listed is at most n
abbrev pub at_most : ℕ → List (ℕ × ℕ) → Bool
at_most n [] = true
at_most n (w ∷ ws) = nat_le w.1 n && at_most n ws

pub val_low : (n : ℕ) (ws : List (ℕ × ℕ)) → at_most n ws ≡ true → (k : ℕ) → val ws k ≤ n
val_low n [] e k = omega arith
val_low n (w ∷ ws) e k =
    let both = and_parts (nat_le w.1 n) (at_most n ws) e in
    let here = leb-true w.1 n both.0 in
    let rest = val_low n ws both.1 k in
    ⊎_elim
    (λ (q : k == w.0 ≡ true). let v : val (w ∷ ws) k ≡ w.1 = cond-true _ _ _ q in omega arith)
    (λ (q : k == w.0 ≡ false). let v : val (w ∷ ws) k ≡ val ws k = cond-false _ _ _ q in omega arith)
    (cases_Bool (k == w.0))

pub as_long : (n : ℕ) (ws : List (ℕ × ℕ)) → length (zeros_but n ws) ≡ n
as_long n [] = length-replicate n 0
as_long n (w ∷ ws) = length-set (zeros_but n ws) w.0 w.1 ∙ as_long n ws

zeros : (n k : ℕ) → slice_index (replicate n 0) k ≡ 0
zeros n k =
    ⊎_elim
    (λ (l : k < n). get_or-replicate n k 0 0 l)
    (λ (l : n ≤ k). get_or_past (replicate n 0) k 0 (let e = length-replicate {A = ℕ} n 0 in omega arith))
    (cases_lt k n)

pub val_is : (n : ℕ) (ws : List (ℕ × ℕ)) → inside n ws ≡ true → (k : ℕ) → slice_index (zeros_but n ws) k ≡ val ws k
val_is n [] e k = zeros n k
val_is n (w ∷ ws) e k =
    let both = and_parts (nat_lt w.0 n) (inside n ws) e in
    let low : w.0 < length (zeros_but n ws) = subst (λ m. w.0 < m) (sym (as_long n ws)) (ltb-true w.0 n both.0) in
    ⊎_elim
    (λ (q : k ≡ w.0). ap (λ i. get_or (slice_set (zeros_but n ws) w.0 w.1) i 0) q ∙ get_or-set_same (zeros_but n ws) w.0 w.1 0 low ∙ sym (cond-true _ _ _ (eq-eqb k w.0 q)))
    (λ (q : k ≡ w.0 → ⊥). get_or-set_other (zeros_but n ws) w.0 k w.1 0 q ∙ val_is n ws both.1 k ∙ sym (cond-false _ _ _ (ne_eqb k w.0 q)))
    (cases_eq k w.0)

-- x is written at a place, if it is not there already
abbrev pub put : List (ℕ × ℕ) → ℕ → ℕ → List (ℕ × ℕ)
put ws k x = cond (val ws k == x) ws ((k, x) ∷ ws)

pub put_is : (n : ℕ) (ws : List (ℕ × ℕ)) (k x : ℕ) → inside n ws ≡ true → zeros_but n (put ws k x) ≡ slice_set (zeros_but n ws) k x
put_is n ws k x e =
    ⊎_elim
    (λ (q : val ws k == x ≡ true).
    let there : slice_index (zeros_but n ws) k ≡ x = val_is n ws e k ∙ eqb-true (val ws k) x q in
    ap (zeros_but n) (cond-true _ _ _ q) ∙ sym (set-get_or (zeros_but n ws) k 0) ∙ ap (set (zeros_but n ws) k) there)
    (λ (q : val ws k == x ≡ false). ap (zeros_but n) (cond-false _ _ _ q))
    (cases_Bool (val ws k == x))

pub put_other : (ws : List (ℕ × ℕ)) (k x j : ℕ) → j ≢ k → val (put ws k x) j ≡ val ws j
put_other ws k x j ne =
    ⊎_elim
    (λ (q : val ws k == x ≡ true). ap (λ ws. val ws j) (cond-true _ _ _ q))
    (λ (q : val ws k == x ≡ false). ap (λ ws. val ws j) (cond-false _ _ _ q) ∙ cond-false _ _ _ (ne_eqb j k ne))
    (cases_Bool (val ws k == x))

-- two lists tell the same at the places of a third
abbrev pub agree : List (ℕ × ℕ) → List (ℕ × ℕ) → List (ℕ × ℕ) → Bool
agree [] ws vs = true
agree (x ∷ xs) ws vs = val ws x.0 == val vs x.0 && agree xs ws vs

agree_at : (xs ws vs : List (ℕ × ℕ)) → agree xs ws vs ≡ true → (k : ℕ) → (val ws k ≡ val vs k) ⊎ (val xs k ≡ 0)
agree_at [] ws vs e k = inr refl
agree_at (x ∷ xs) ws vs e k =
    let both = and_parts (val ws x.0 == val vs x.0) (agree xs ws vs) e in
    ⊎_elim
    (λ (q : k ≡ x.0). inl (ap (val ws) q ∙ eqb-true _ _ both.0 ∙ sym (ap (val vs) q)))
    (λ (q : k ≡ x.0 → ⊥).
    ⊎_elim
    (λ (s : val ws k ≡ val vs k). inl s)
    (λ (z : val xs k ≡ 0). inr (cond-false _ _ _ (ne_eqb k x.0 q) ∙ z))
    (agree_at xs ws vs both.1 k))
    (cases_eq k x.0)

-- two lists tell one table of n places
abbrev pub alike : ℕ → List (ℕ × ℕ) → List (ℕ × ℕ) → Bool
alike n ws vs = (inside n ws && inside n vs) && (agree ws ws vs && agree vs ws vs)

pub same_zeros : (n size : ℕ) (ws vs : List (ℕ × ℕ)) → n ≡ size → alike size ws vs ≡ true → zeros_but n ws ≡ zeros_but n vs
same_zeros n size ws vs e t =
    let both = and_parts (inside size ws && inside size vs) _ t in
    let low = and_parts (inside size ws) (inside size vs) both.0 in
    let told = and_parts (agree ws ws vs) (agree vs ws vs) both.1 in
    ext_get_or 0 (zeros_but n ws) (zeros_but n vs) (as_long n ws ∙ sym (as_long n vs)) (λ k _.
    val_is n ws (subst (λ n. inside n ws ≡ true) (sym e) low.0) k ∙ same told.0 told.1 k ∙ sym (val_is n vs (subst (λ n. inside n vs ≡ true) (sym e) low.1) k))
  where
    same : agree ws ws vs ≡ true → agree vs ws vs ≡ true → (k : ℕ) → val ws k ≡ val vs k
    same c d k =
        ⊎_elim
        (λ (s : val ws k ≡ val vs k). s)
        (λ (z : val ws k ≡ 0). ⊎_elim (λ (s : val ws k ≡ val vs k). s) (λ (y : val vs k ≡ 0). z ∙ sym y) (agree_at vs ws vs d k))
        (agree_at ws ws vs c k)
