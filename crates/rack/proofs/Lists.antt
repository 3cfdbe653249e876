-- The channels that leave a node, one channel at a time. Assumes nothing.
use Rattle.std.proofs.Common.{vec_items, ◌≡◌, ℕ, zero, suc, ◌<◌, cond, eq-eqb, List, [], ◌∷◌, ◌++◌, length, map, get_or, set, Vec, Global, sym, ap, ◌∙◌, subst, ⊎_elim, arith}
use Rattle.std.proofs.lemmas.List.{get_or-set_same, get_or-set_other, get_or-map, length-map, map-set, append-nil}
use Rattle.std.proofs.lemmas.Bool.{cases_eq, ne_eqb}
use Rattle.std.proofs.lemmas.List.Elements.{All-push, Contains-append_left, Contains-push}
use Rattle.std.proofs.lemmas.List.Quantifiers.{all_pairs_push}
use Rattle.std.specs.List.{Contains}
use Rattle.rack.specs.declared.cable.Cable.{Cable}
use Rattle.rack.specs.declared.numbers.Channel.{Channel}
use Rattle.rack.specs.declared.rack.Rack.{Rack}
use Rattle.rack.specs.Network.{tail_end}
use Rattle.rack.specs.Racks.{cables_of, channel_count, Leaving}
use Rattle.rack.specs.Index.{leaving_below, list_of, Lists}

-- channel c is below n and leaves node v
abbrev LeavesBelow : List Cable → ℕ → ℕ → ℕ → Type 0
LeavesBelow cables v n c = (c < n) × ((tail_end cables c).node.0 ≡ v)

lists_more : (cables : List Cable) (v n : ℕ) (list : List Channel) → (tail_end cables n).node.0 ≡ v → Lists (LeavesBelow cables v n) list → Lists (LeavesBelow cables v (suc n)) (list ++ record { 0 = n } ∷ [])
lists_more cables v n list is old = record {
  each = All-push (λ c. LeavesBelow cables v (suc n) c.0) list (record { 0 = n }) (λ k d h. let at = old.each k d h in (omega (arith, at.0), at.1)) (omega arith, is);
  every = λ c at.
      ⊎_elim
      (λ (e : c.0 ≡ n). subst (Contains (list ++ record { 0 = n } ∷ [])) (λ i. record { 0 = sym e i }) (Contains-push list (record { 0 = n })))
      (λ (other : c.0 ≡ n → ⊥). Contains-append_left list _ c (old.every c (omega (arith, at.0), at.1)))
      (cases_eq c.0 n);
  ascending = all_pairs_push (λ b c. b.0 < c.0) list (record { 0 = n }) old.ascending (λ k d h. (old.each k d h).0);
}

lists_same : (cables : List Cable) (v n : ℕ) (list : List Channel) → ((tail_end cables n).node.0 ≡ v → ⊥) → Lists (LeavesBelow cables v n) list → Lists (LeavesBelow cables v (suc n)) (list ++ [])
lists_same cables v n list other old = rw append-nil (record {
  each = λ k d h. let at = old.each k d h in (omega (arith, at.0), at.1);
  every = λ c at.
      ⊎_elim
      (λ (e : c.0 ≡ n). absurd (other (subst (λ x. (tail_end cables x).node.0 ≡ v) e at.1)))
      (λ (d : c.0 ≡ n → ⊥). old.every c (omega (arith, at.0), at.1))
      (cases_eq c.0 n);
  ascending = old.ascending;
})

pub lists : (cables : List Cable) (v n : ℕ) → Lists (LeavesBelow cables v n) (leaving_below cables v n)
lists cables v zero = record { each = λ k d h. absurd (omega arith); every = λ c at. absurd (omega (arith, at.0)); ascending = λ i j d low high. absurd (omega arith) }
lists cables v (suc n) =
    ⊎_elim
    (λ (e : (tail_end cables n).node.0 ≡ v). rw (eq-eqb _ _ e) (lists_more cables v n _ e (lists cables v n)))
    (λ (other : (tail_end cables n).node.0 ≡ v → ⊥). rw (ne_eqb _ _ other) (lists_same cables v n _ other (lists cables v n)))
    (cases_eq (tail_end cables n).node.0 v)

-- what stands at the place of node v is its list
pub list_at : (rows all : List (Vec Channel Global)) (v i : ℕ) (x : Vec Channel Global) → all ≡ rows → i ≡ v → i < length all → x ≡ get_or all i x → x.items ≡ list_of rows v
list_at rows all v i x same is low at =
    let items = λ (l : Vec Channel Global). l.items in
    ap items at ∙ sym (get_or-map items all i x [] low) ∙ ap (λ l. get_or (map items l) i []) same ∙ ap (list_of rows) is

-- the list of a node, of those that a rack has
pub rack_lists : (r : Rack) (v : ℕ) → Lists (Leaving r v) (list_of (vec_items r.leaving) v)
rack_lists r v = subst (Lists (Leaving r v)) (sym (r.listed.1 v)) (lists (cables_of r) v (channel_count r))

-- a channel at the end of its tail's list: each list has what leaves its node among one channel more
pub listed_more :
    (cables : List Cable) (rows : List (Vec Channel Global)) (n t : ℕ) (more : Vec Channel Global) → t < length rows → (tail_end cables n).node.0 ≡ t → more.items ≡ list_of rows t ++ record { 0 = n } ∷ [] →
    ((v : ℕ) → list_of rows v ≡ leaving_below cables v n) → (v : ℕ) → list_of (set rows t more) v ≡ leaving_below cables v (suc n)
listed_more cables rows n t more low is pushed old v =
    let items = λ (l : Vec Channel Global). l.items in
    let fits : t < length (map items rows) = rw length-map low in
    let at : list_of (set rows t more) v ≡ get_or (set (map items rows) t more.items) v [] = ap (λ x. get_or x v []) (map-set items rows t more) in
    at ∙ ⊎_elim
    (λ (e : (tail_end cables n).node.0 ≡ v).
    let same : v ≡ t = sym e ∙ is in
    ap (λ k. get_or (set (map items rows) t more.items) k []) same ∙ get_or-set_same (map items rows) t more.items [] fits ∙ pushed ∙ ap (λ l. l ++ record { 0 = n } ∷ []) (ap (list_of rows) (sym same) ∙ old v) ∙ ap (λ b. leaving_below cables v n ++ cond b (record { 0 = n } ∷ []) []) (sym (eq-eqb _ _ e)))
    (λ (other : (tail_end cables n).node.0 ≡ v → ⊥).
    get_or-set_other (map items rows) t v more.items [] (λ e. other (is ∙ sym e)) ∙ old v ∙ sym (append-nil (leaving_below cables v n)) ∙ ap (λ b. leaving_below cables v n ++ cond b (record { 0 = n } ∷ []) []) (sym (ne_eqb _ _ other)))
    (cases_eq (tail_end cables n).node.0 v)
