-- Marks that are added one by one. Assumes nothing.
use Rattle.std.proofs.Common.{◌≡◌, ℕ, ◌^◌, ◌<◌, true, ◌⊎◌, List, ◌++◌, length, get_or, take, drop, set, sym, ap, ◌∙◌, subst, inl, inr, ⊎_elim}
use Rattle.std.specs.Int.Bits.{bit_or}
use Rattle.std.proofs.lemmas.List.{take_at, get_or-set_same, get_or-set_other}
use Rattle.std.proofs.lemmas.Bool.{cases_eq}
use Rattle.checking.specs.Words.{bit}
use Rattle.checking.specs.Marks.{Adds}
use Rattle.checking.proofs.Bits.{bit_set, bit_other}

-- one bit set
pub adds_one : (t : List ℕ) (at b : ℕ) → at < length t → Adds (λ k j. (k ≡ at) × (j ≡ b)) t (set t at (bit_or (get_or t at 0) (2 ^ b)))
adds_one t at b l k j =
    ⊎_elim
    (λ (e : k ≡ at).
    let is : get_or (set t at (bit_or (get_or t at 0) (2 ^ b))) k 0 ≡ bit_or (get_or t k 0) (2 ^ b) = ap (λ i. get_or (set t at (bit_or (get_or t at 0) (2 ^ b))) i 0) e ∙ get_or-set_same t at _ 0 l ∙ ap (λ i. bit_or (get_or t i 0) (2 ^ b)) (sym e) in
    ⊎_elim
    (λ (f : j ≡ b). (λ _. inr (e, f), λ _. ap (λ n. bit n j) is ∙ subst (λ i. bit (bit_or (get_or t k 0) (2 ^ b)) i ≡ true) (sym f) (bit_set (get_or t k 0) b)))
    (λ (ne : j ≡ b → ⊥).
    let same = ap (λ n. bit n j) is ∙ bit_other (get_or t k 0) b j ne in
    (λ h. inl (sym same ∙ h), ⊎_elim (λ (h : bit (get_or t k 0) j ≡ true). same ∙ h) (λ (h : (k ≡ at) × (j ≡ b)). absurd (ne h.1))))
    (cases_eq j b))
    (λ (ne : k ≡ at → ⊥).
    let same = ap (λ n. bit n j) (get_or-set_other t at k (bit_or (get_or t at 0) (2 ^ b)) 0 ne) in
    (λ h. inl (sym same ∙ h), ⊎_elim (λ (h : bit (get_or t k 0) j ≡ true). same ∙ h) (λ (h : (k ≡ at) × (j ≡ b)). absurd (ne h.0))))
    (cases_eq k at)

-- nothing added
pub adds_none : (M : ℕ → ℕ → Type 0) (t : List ℕ) → ((k b : ℕ) → M k b → ⊥) → Adds M t t
adds_none M t none k b = (λ h. inl h, ⊎_elim (λ h. h) (λ (m : M k b). absurd (none k b m)))

-- first these, then those
pub adds_both : (M O P : ℕ → ℕ → Type 0) (s t u : List ℕ) → ((k b : ℕ) → P k b → M k b ⊎ O k b) → ((k b : ℕ) → M k b → P k b) → ((k b : ℕ) → O k b → P k b) → Adds M s t → Adds O t u → Adds P s u
adds_both M O P s t u split left right one two k b = (
  λ h. ⊎_elim (λ (x : bit (get_or t k 0) b ≡ true). ⊎_elim inl (λ (m : M k b). inr (left k b m)) ((one k b).0 x)) (λ (o : O k b). inr (right k b o)) ((two k b).0 h),
  ⊎_elim
      (λ (x : bit (get_or s k 0) b ≡ true). (two k b).1 (inl ((one k b).1 (inl x))))
      (λ (p : P k b). ⊎_elim (λ (m : M k b). (two k b).1 (inl ((one k b).1 (inr m)))) (λ (o : O k b). (two k b).1 (inr o)) (split k b p)),
)

-- the same, where place and bit are known by equations
pub adds_mark : (t : List ℕ) (at place b mask word : ℕ) → at ≡ place → mask ≡ word → at < length t → mask ≡ 2 ^ b → Adds (λ k j. (k ≡ place) × (j ≡ b)) t (set t at (bit_or (get_or t at 0) word))
adds_mark t at place b mask word e w l m =
    subst (λ (x : ℕ). Adds (λ k j. (k ≡ place) × (j ≡ b)) t (set t at (bit_or (get_or t at 0) x))) (sym m ∙ w)
    (subst (λ (q : ℕ). Adds (λ k j. (k ≡ q) × (j ≡ b)) t (set t at (bit_or (get_or t at 0) (2 ^ b)))) e (adds_one t at b l))

-- the same of a whole `Vec`, whose elements were lent
pub adds_whole : (M : ℕ → ℕ → Type 0) (s t items : List ℕ) (len : ℕ) → s ≡ items → length t ≡ len → Adds M s t → Adds M items (take len (t ++ drop (length t) items))
adds_whole M s t items len e long adds = rw (take_at t (drop (length t) items) len long) (subst (λ (xs : List ℕ). Adds M xs t) e adds)
