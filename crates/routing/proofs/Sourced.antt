-- What the forwarding sources assign, from what the rack answers. Assumes nothing.
use Rattle.std.proofs.Common.{◌≡◌, ℕ, zero, suc, ◌+◌, ◌<◌, ◌≤◌, Bool, true, false, eqb, List, length, get_or, Some, None, Option, MatchOption, sym, refl, ap, ◌∙◌, subst, ⊎_elim, arith, eq-eqb, ne_eqb}
use Rattle.std.specs.List.{AllWithin, HoldsAt}
use Rattle.std.proofs.lemmas.Bool.{cases_eq, cases_lt, and_from, and_left, and_right, cond-true, cond-false}
use Rattle.rack.specs.declared.numbers.Channel.{Channel}
use Rattle.rack.specs.declared.rack.Rack.{Rack}
use Rattle.rack.specs.Racks.{channel_count, head, tail, Leaving}
use Rattle.routing.specs.Sources.{numbers, told, one_nearer, least}
use Rattle.rack.specs.Index.{Lists}

-- the least that passes, told by what passes
pub least_some : (p : ℕ → Bool) (k n j : ℕ) → k ≤ j → j < k + n → p j ≡ true → ((i : ℕ) → k ≤ i → i < j → p i ≡ false) → least p k n ≡ Some j
least_some p k zero j low high here before = absurd (omega arith)
least_some p k (suc n) j low high here before =
    ⊎_elim
    (λ (e : k ≡ j). cond-true (p k) _ _ (ap p e ∙ here) ∙ ap Some e)
    (λ (ne : k ≡ j → ⊥).
    cond-false (p k) _ _ (before k (omega arith) (omega arith)) ∙ least_some p (k + 1) n j (omega arith) (omega arith) here (λ i l u. before i (omega arith) u))
    (cases_eq k j)

pub least_none : (p : ℕ → Bool) (k n : ℕ) → ((i : ℕ) → k ≤ i → i < k + n → p i ≡ false) → least p k n ≡ None
least_none p k zero h = refl
least_none p k (suc n) h = cond-false (p k) _ _ (h k (omega arith) (omega arith)) ∙ least_none p (k + 1) n (λ i l u. h i (omega arith) (omega arith))

-- the head of channel c is nearer to v than that by one
abbrev pub Nearer : Rack → List ℕ → ℕ → ℕ → Channel → Type 0
Nearer r table v distance c = (c.0 < channel_count r) × (told r table (head r c.0) v + 1 ≡ distance)

module _ (r : Rack) (table : List ℕ) (w v : ℕ) where
  pub nearer_yes : (d : ℕ) → tail r d ≡ w → told r table (head r d) v + 1 ≡ told r table w v → one_nearer r table w v d ≡ true
  nearer_yes d e n = and_from _ _ (eq-eqb (tail r d) w e) (eq-eqb (told r table (head r d) v + 1) (told r table w v) n)

  pub nearer_not : (d : ℕ) → (told r table (head r d) v + 1 ≡ told r table w v → ⊥) → one_nearer r table w v d ≡ false
  nearer_not d n = and_right (eqb (tail r d) w) _ (ne_eqb (told r table (head r d) v + 1) (told r table w v) n)

  -- a channel that leaves the switch, unless it leads nearer, is passed over
  nearer_off : (d : ℕ) → (Leaving r w d → told r table (head r d) v + 1 ≡ told r table w v → ⊥) → d < channel_count r → one_nearer r table w v d ≡ false
  nearer_off d off low =
      ⊎_elim
      (λ (e : tail r d ≡ w). nearer_not d (off (low, e)))
      (λ (ne : tail r d ≡ w → ⊥). and_left _ _ (ne_eqb (tail r d) w ne))
      (cases_eq (tail r d) w)

  -- the first channel of the switch's list that leads nearer is the least
  module _ (list : List Channel) (all : Lists (Leaving r w) list) (distance : ℕ) (is : distance ≡ told r table w v) where
    pub nearest :
        (o : Option Channel) →
        MatchOption o (AllWithin (λ c. Nearer r table v distance c → ⊥) list 0 (length list)) (λ c. Nearer r table v distance c × (i : ℕ) × (i < length list) × HoldsAt (λ d. d ≡ c) list i × AllWithin (λ d. Nearer r table v distance d → ⊥) list 0 i) →
        numbers o ≡ least (one_nearer r table w v) 0 (channel_count r)
    nearest None none =
        sym (least_none (one_nearer r table w v) 0 (channel_count r) (λ d _ low. nearer_off d (λ leaves near.
        let c : Channel = record { 0 = d } in
        let at = all.every c leaves in
        none at.0 c (omega arith) at.1 (subst (Nearer r table v distance) (sym at.2) (leaves.0, near ∙ sym is)))
        (omega arith)))
    nearest (Some c) found =
        let i = found.1 in
        let here = found.3 c in
        let out : Leaving r w c.0 = subst (λ (x : Channel). Leaving r w x.0) here (all.each i c found.2) in
        sym (least_some (one_nearer r table w v) 0 (channel_count r) c.0 (omega arith) (omega (arith, out.0)) (nearer_yes c.0 out.1 (found.0.1 ∙ is)) (λ d _ low. nearer_off d (λ leaves near.
        let x : Channel = record { 0 = d } in
        let at = all.every x leaves in
        ⊎_elim
        (λ (first : at.0 < i). found.4 at.0 x (omega arith) first (subst (Nearer r table v distance) (sym at.2) (leaves.0, near ∙ sym is)))
        (λ (after : i ≤ at.0).
        ⊎_elim
        (λ (e : at.0 ≡ i). omega (arith, ap (λ (y : Channel). y.0) (sym at.2 ∙ ap (λ k. get_or list k x) e ∙ found.3 x)))
        (λ (other : at.0 ≡ i → ⊥). omega (arith, all.ascending i at.0 x (omega arith) at.1, ap (λ (y : Channel). y.0) at.2, ap (λ (y : Channel). y.0) (found.3 x)))
        (cases_eq at.0 i))
        (cases_lt at.0 i))
        (omega (arith, out.0))))
