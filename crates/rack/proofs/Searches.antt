-- What a search among the channels that leave a node finds. Assumes nothing.
use Rattle.std.proofs.Common.{◌≡◌, ℕ, ◌<◌, ◌≤◌, List, length, map, get_or, Some, None, Option, MatchOption, sym, refl, ap, ◌∙◌, subst, ⊎_elim, arith}
use Rattle.std.specs.List.{AllWithin, HoldsAt}
use Rattle.std.proofs.lemmas.List.{length-map, get_or-map}
use Rattle.std.proofs.lemmas.List.Elements.{All-map}
use Rattle.std.proofs.lemmas.Bool.{cases_lt, cases_eq}
use Rattle.rack.specs.declared.numbers.Channel.{Channel}
use Rattle.rack.specs.declared.rack.Rack.{Rack}
use Rattle.rack.specs.Racks.{tail, head, Host, Leaving, Entering, EntersSwitch, back}
use Rattle.rack.proofs.Facts as facts
use Rattle.rack.specs.Index.{Lists}

module _ (P : ℕ → Type 0) (list : List Channel) (all : Lists P list) where
  -- the search for the first from n on found nothing
  pub none_from : (n : ℕ) → AllWithin (λ c. c.0 < n) list 0 (length list) → (c : ℕ) → n ≤ c → P c → ⊥
  none_from n low c from is =
      let at = all.every (record { 0 = c }) is in
      omega (arith, low at.0 (record { 0 = c }) (omega arith) at.1, ap (λ (x : Channel). x.0) at.2)

  -- or found the channel at place i, and none before it
  pub least_from : (n i : ℕ) (c : Channel) → i < length list → HoldsAt (λ d. d ≡ c) list i → AllWithin (λ d. d.0 < n) list 0 i → P c.0 × ((d : ℕ) → n ≤ d → d < c.0 → P d → ⊥)
  least_from n i c within here low = (
    subst (λ (x : Channel). P x.0) (here c) (all.each i c within),
    λ d from before is.
        let at = all.every (record { 0 = d }) is in
        ⊎_elim
        (λ (first : at.0 < i). omega (arith, low at.0 (record { 0 = d }) (omega arith) first, ap (λ (x : Channel). x.0) at.2))
        (λ (after : i ≤ at.0).
        ⊎_elim
        (λ (e : at.0 ≡ i). omega (arith, ap (λ (x : Channel). x.0) (sym at.2 ∙ ap (λ k. get_or list k (record { 0 = d })) e ∙ here (record { 0 = d }))))
        (λ (other : at.0 ≡ i → ⊥). omega (arith, all.ascending i at.0 (record { 0 = d }) (omega arith) at.1, ap (λ (x : Channel). x.0) at.2, ap (λ (x : Channel). x.0) (here (record { 0 = d }))))
        (cases_eq at.0 i))
        (cases_lt at.0 i),
  )

  pub first_from :
      (n : ℕ) (o : Option Channel) →
      MatchOption o (AllWithin (λ c. c.0 < n) list 0 (length list)) (λ c. (n ≤ c.0) × (i : ℕ) × (i < length list) × HoldsAt (λ d. d ≡ c) list i × AllWithin (λ d. d.0 < n) list 0 i) →
      MatchOption o ((c : ℕ) → n ≤ c → P c → ⊥) (λ c. (n ≤ c.0) × P c.0 × ((d : ℕ) → n ≤ d → d < c.0 → P d → ⊥))
  first_from n None low = none_from n low
  first_from n (Some c) found = let at = least_from n found.1 c found.2 found.3 found.4 in (found.0, at.0, at.1)

-- what enters a node is the way back of what leaves it
entering_back : (r : Rack) (v c : ℕ) → Entering r v c → Leaving r v (back c)
entering_back r v c h = let w = facts.ways_back r c h.0 in (w.0, w.2 ∙ h.1)

leaving_back : (r : Rack) (v c : ℕ) → Leaving r v c → Entering r v (back c)
leaving_back r v c h = let w = facts.ways_back r c h.0 in (w.0, w.4 ∙ h.1)

-- the channels that leave a node are in the order of their ways back
leaving_order : (r : Rack) (v b c : ℕ) → Leaving r v b → Leaving r v c → b < c → back b < back c
leaving_order r v b c h k low =
    facts.back_order b c low (λ same.
    let e : c ≡ back b = facts.back_even_odd b c low same in
    facts.ends_differ r b h.0 (h.1 ∙ sym k.1 ∙ ap (tail r) e ∙ (facts.ways_back r b h.0).2))

abbrev pub way_back : Channel → Channel
way_back c = record { 0 = back c.0 }

-- so the ways back, in that order, are the channels that enter the node
pub entering : (r : Rack) (v : ℕ) (list : List Channel) → Lists (Leaving r v) list → Lists (Entering r v) (map way_back list)
entering r v list all = record {
  each = All-map (λ c. Entering r v c.0) way_back list (λ k d h. leaving_back r v _ (all.each k d h));
  every = λ c enters.
      let at = all.every (way_back c) (entering_back r v c.0 enters) in
      let there : way_back (way_back c) ≡ c = λ i. record { 0 = facts.back_back c.0 i } in
      (at.0, rw length-map at.1, get_or-map way_back list at.0 (way_back c) c at.1 ∙ ap way_back at.2 ∙ there);
  ascending = λ i j d low high.
      let high' : j < length list = rw length-map at high in
      let low' : i < length list = omega arith in
      let first = get_or-map way_back list i d d low' in
      let second = get_or-map way_back list j d d high' in
      let order = leaving_order r v _ _ (all.each i d low') (all.each j d high') (all.ascending i j d low high') in
      rw (first, second) order;
}

-- the first channel that leaves a host is the one that does, and enters a switch
pub out_of_host :
    (r : Rack) (v : ℕ) (o : Option Channel) → Host r v →
    MatchOption o ((c : ℕ) → 0 ≤ c → Leaving r v c → ⊥) (λ c. (0 ≤ c.0) × Leaving r v c.0 × ((d : ℕ) → 0 ≤ d → d < c.0 → Leaving r v d → ⊥)) →
    MatchOption o (Host r v → ⊥) (λ c. Host r v × Leaving r v c.0 × ((d : ℕ) → Leaving r v d → d ≡ c.0) × ((w : ℕ) × EntersSwitch r c.0 w))
out_of_host r v None host none_leaves = let one = facts.one_out r v host in absurd (none_leaves one.0 (omega arith) one.1)
out_of_host r v (Some c) host found =
    let one = facts.one_out r v host in
    let out = found.1 in
    (host, out, λ d h. one.2 d h ∙ sym (one.2 c.0 out), (head r c.0, (out.0, refl, facts.from_host r c.0 out.0 (subst (Host r) (sym out.1) host))))
