-- The numbers of a path's virtual channels, hop by hop. Assumes nothing.
use Rattle.std.proofs.Common.{◌≡◌, ℕ, zero, suc, ◌+◌, ◌<◌, ◌≤◌, ◌⊎◌, List, [], ◌∷◌, length, get_or, Some, None, Option, sym, refl, ap, ◌∙◌, inl, inr, ⊎_elim, add-zero, add-suc, suc-add, arith}
use Rattle.std.specs.Prelude.{All}
use Rattle.std.proofs.lemmas.List.Elements.{All-nil, All-cons}
use Rattle.std.proofs.lemmas.Option.{none-some, same_Some}
use Rattle.routing.specs.Paths.{Routing, Hop, hop_at}
use Rattle.routing.proofs.Hops.{gone}
use Rattle.checking.specs.Plans.{virtual}
use Rattle.courses.specs.Law.{Next, here, later, ahead, Once}
use Rattle.courses.proofs.Ways.{ahead_past}
use Rattle.fabric.specs.Courses.{then_on, hops_on}

next_cases : {x y z : ℕ} {zs : List ℕ} → Next x y (z ∷ zs) → ((x ≡ z) × ((rest : List ℕ) × (zs ≡ y ∷ rest))) ⊎ Next x y zs
next_cases (here {zs}) = inl (refl, (zs, refl))
next_cases (later n) = inr n

none_next : {x y : ℕ} {zs : List ℕ} → zs ≡ [] → Next x y zs → ⊥
none_next e here = cc
none_next e (later n) = cc

module _ (g : Routing) (c v level : ℕ) where
  abbrev H : ℕ → Option Hop
  H i = hop_at g c v level i

  abbrev L : ℕ → ℕ → List ℕ
  L i n = hops_on g c v level i n

  -- the numbers from hop i on: none, or its own and those behind it
  by_hop : (i n : ℕ) (G : List ℕ → Type 0) → (H i ≡ None → G []) → ((h : Hop) → H i ≡ Some h → G (virtual h ∷ L (suc i) n)) → G (L i (suc n))
  by_hop i n G ends goes = go (H i) refl
    where
      go : (o : Option Hop) → H i ≡ o → G (then_on o (L (suc i) n))
      go None e = ends e
      go (Some h) e = goes h e

  -- what holds of each hop holds of each number
  pub all_hops : (Q : ℕ → Type 0) (i n : ℕ) → ((j : ℕ) (h : Hop) → i ≤ j → H j ≡ Some h → Q (virtual h)) → All Q (L i n)
  all_hops Q i zero f = All-nil Q
  all_hops Q i (suc n) f =
      by_hop i n (All Q) (λ e. All-nil Q) (λ h e. All-cons Q (virtual h) (L (suc i) n) (f i h (omega arith) e) (all_hops Q (suc i) n (λ j k le. f j k (omega arith))))

  -- a number that is that of no hop does not come
  never : (x i n : ℕ) → ((j : ℕ) (h : Hop) → i ≤ j → H j ≡ Some h → virtual h ≡ x → ⊥) → ahead (L i n) x ≡ 0
  never x i zero f = refl
  never x i (suc n) f =
      by_hop i n (λ l. ahead l x ≡ 0) (λ e. refl) (λ h e. ahead_past (virtual h) (L (suc i) n) x (f i h (omega arith) e) ∙ never x (suc i) n (λ j k le. f j k (omega arith)))

  -- where no two hops have one number, none comes twice
  pub once : (i n : ℕ) → ((j k : ℕ) (h o : Hop) → i ≤ j → j < k → H j ≡ Some h → H k ≡ Some o → virtual h ≡ virtual o → ⊥) → Once (L i n)
  once i zero f = tt
  once i (suc n) f =
      by_hop i n Once (λ e. tt)
      (λ h e. (never (virtual h) (suc i) n (λ j o le eo same. f i j h o (omega arith) (omega arith) e eo (sym same)), once (suc i) n (λ j k h o le. f j k h o (omega arith))))

  -- the number that comes first is that of hop i
  first_hop : (i n y : ℕ) (ys : List ℕ) → L i n ≡ y ∷ ys → (o : Hop) × (H i ≡ Some o) × (y ≡ virtual o)
  first_hop i zero y ys e = absurd cc
  first_hop i (suc n) y ys e = by_hop i n (λ l. l ≡ y ∷ ys → (o : Hop) × (H i ≡ Some o) × (y ≡ virtual o)) (λ eo e. absurd cc) (λ h eo e. (h, eo, cc)) e

  -- numbers that follow one another are those of two hops, one behind the other
  abbrev pub TwoHops : ℕ → ℕ → Type 0
  TwoHops x y = (j : ℕ) × (h : Hop) × (o : Hop) × (H j ≡ Some h) × (H (suc j) ≡ Some o) × (x ≡ virtual h) × (y ≡ virtual o)

  pub next_hops : (x y i n : ℕ) → Next x y (L i n) → TwoHops x y
  next_hops x y i zero n = absurd (none_next refl n)
  next_hops x y i (suc m) n =
      by_hop i m (λ l. Next x y l → TwoHops x y) (λ e n. absurd (none_next refl n))
      (λ h e n.
      ⊎_elim
      (λ (t : (x ≡ virtual h) × ((rest : List ℕ) × (L (suc i) m ≡ y ∷ rest))). let b = first_hop (suc i) m y t.1.0 t.1.1 in (i, h, b.0, e, b.1, t.0, b.2))
      (next_hops x y (suc i) m)
      (next_cases n))
      n

  -- place j of the list is hop i + j
  abbrev Placed : List ℕ → ℕ → Hop → Type 0
  Placed l j h = (j < length l) × (get_or l j 0 ≡ virtual h)

  pub at_place : (i n j : ℕ) (h : Hop) → H (i + j) ≡ Some h → j < n → Placed (L i n) j h
  at_place i zero j h e l = absurd (omega arith)
  at_place i (suc n) zero h e l =
      let is : H i ≡ Some h = ap H (sym (add-zero i)) ∙ e in
      by_hop i n (λ xs. Placed xs 0 h) (λ eo. absurd (none-some h (sym eo ∙ is))) (λ k eo. (omega arith, ap virtual (same_Some k h (sym eo ∙ is))))
  at_place i (suc n) (suc j) h e l =
      by_hop i n (λ xs. Placed xs (suc j) h) (λ eo. absurd (none-some h (sym (gone g v level c i (i + suc j) (omega arith) eo) ∙ e)))
      (λ k eo. let b = at_place (suc i) n j h (ap H (suc-add i j ∙ sym (add-suc i j)) ∙ e) (omega arith) in (omega (arith, b.0), b.1))

  pub of_place : (i n j : ℕ) → j < length (L i n) → (h : Hop) × (H (i + j) ≡ Some h) × (get_or (L i n) j 0 ≡ virtual h)
  of_place i zero j l = absurd (omega arith)
  of_place i (suc n) zero l =
      by_hop i n (λ xs. 0 < length xs → (h : Hop) × (H (i + 0) ≡ Some h) × (get_or xs 0 0 ≡ virtual h)) (λ eo l. absurd (omega arith)) (λ k eo l. (k, ap H (add-zero i) ∙ eo, refl)) l
  of_place i (suc n) (suc j) l =
      by_hop i n (λ xs. suc j < length xs → (h : Hop) × (H (i + suc j) ≡ Some h) × (get_or xs (suc j) 0 ≡ virtual h)) (λ eo l. absurd (omega arith))
      (λ k eo l. let b = of_place (suc i) n j (omega arith) in (b.0, ap H (add-suc i j ∙ sym (suc-add i j)) ∙ b.1, b.2)) l

  -- a path that has ended has no more numbers
  pub no_more : (i n : ℕ) → H i ≡ None → L i n ≡ []
  no_more i zero e = refl
  no_more i (suc n) e = ap (λ o. then_on o (L (suc i) n)) e
