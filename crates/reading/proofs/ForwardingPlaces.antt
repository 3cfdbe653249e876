-- What one more forwarding entry does to the forwarding table. Assumes nothing.
use Rattle.std.proofs.Common.{◌≡◌, ℕ, ◌+◌, ◌*◌, ◌/◌, ◌%◌, ◌<◌, ◌≤◌, List, [], ◌∷◌, ◌++◌, length, get_or, set, sym, refl, ap, ◌∙◌, subst, inl, inr, ⊎_elim, mul_comm, arith}
use Rattle.std.proofs.lemmas.List.{get_or-set_same, get_or-set_other, get_or_push, get_or_append_left, length_push}
use Rattle.std.proofs.lemmas.Bool.{cases_eq, cases_lt}
use Rattle.std.proofs.lemmas.Nat.{mul-add-lt, mul-le, div-mul-add, mod-mul-add}
use Rattle.rack.specs.declared.cable.Cable.{Cable}
use Rattle.reading.specs.declared.record.Entry.{Entry}
use Rattle.rack.specs.Network.{port_of, Leaves}
use Rattle.reading.specs.Rules.{Described, Names, Forwarded, nothing}

-- a node that the table has is below the count
pub below_count : (nodes : List ℕ) (n k x : ℕ) → ((j : ℕ) → n ≤ j → get_or nodes j 0 ≡ 0) → get_or nodes k 0 ≡ x → 0 < x → k < n
below_count nodes n k x beyond is some = ⊎_elim (λ h. h) (λ h. absurd (omega (arith, beyond k h))) (cases_lt k n)

pub place_within : (n w v : ℕ) → n ≤ 128 → w < n → v < n → n * w + v < 16384
place_within n w v few row col = omega (arith, mul-add-lt w n v n row col, mul-le n n 128 128 few few)

-- a place is of one pair
pub same_pair : (n w v a b : ℕ) → v < n → b < n → n * w + v ≡ n * a + b → (w ≡ a) × (v ≡ b)
same_pair n w v a b low high e =
    let f : w * n + v ≡ a * n + b = ap (λ x. x + v) (mul_comm w n) ∙ e ∙ ap (λ x. x + b) (mul_comm n a) in (
      sym (div-mul-add w n v low) ∙ ap (λ x. x / n) f ∙ div-mul-add a n b high,
      sym (mod-mul-add w n v low) ∙ ap (λ x. x % n) f ∙ mod-mul-add a n b high,
    )

module _ (nodes : List ℕ) (cables : List Cable) (entries : List Entry) (e : Entry) where
  abbrev before : Described
  before = record { nodes = nodes; cables = cables; entries = entries }

  abbrev after : Described
  after = record { nodes = nodes; cables = cables; entries = entries ++ e ∷ [] }

  -- another pair's place says what it said
  pub other_pair : (w v x : ℕ) → (Names e w v → ⊥) → Forwarded before w v x → Forwarded after w v x
  other_pair w v x other (inl h) =
      inl (
        h.0,
        λ k l named.
            ⊎_elim
            (λ (low : k < length entries). h.1 k low (subst (λ d. Names d w v) (get_or_append_left entries (e ∷ []) nothing k low) named))
            (λ (high : length entries ≤ k).
            let long = length_push entries e in
            let last : length entries ≡ k = omega arith in
            other (subst (λ d. Names d w v) (get_or_push entries e nothing k last) named))
            (cases_lt k (length entries)),
      )
  other_pair w v x other (inr h) =
      let k = h.0 in
      let same = get_or_append_left entries (e ∷ []) nothing k h.2 in
      inr (k, h.1, rw length_push (omega (arith, h.2)), subst (λ d. Names d w v) (sym same) h.3, subst (λ d. Leaves cables (port_of w d.port.0) h.1) (sym same) h.4, h.5)

  pub this_pair : (c : ℕ) → Leaves cables (port_of e.switch.0 e.port.0) c → Forwarded after e.switch.0 e.host.0 (c + 1)
  this_pair c leaves =
      let same = get_or_push entries e nothing (length entries) refl in
      inr (length entries, c, rw length_push (omega arith), subst (λ d. Names d e.switch.0 e.host.0) (sym same) (refl, refl), subst (λ d. Leaves cables (port_of e.switch.0 d.port.0) c) (sym same) leaves, refl)

  -- with the entry's channel at its pair's place, every place says where to go
  pub forwarded_push :
      (table : List ℕ) (n c : ℕ) → e.host.0 < n → n * e.switch.0 + e.host.0 < length table → Leaves cables (port_of e.switch.0 e.port.0) c →
      ((w v : ℕ) → v < n → Forwarded before w v (get_or table (n * w + v) 0)) →
      (w v : ℕ) → v < n → Forwarded after w v (get_or (set table (n * e.switch.0 + e.host.0) (c + 1)) (n * w + v) 0)
  forwarded_push table n c within fits leaves hops w v h =
      let at_e = n * e.switch.0 + e.host.0 in
      ⊎_elim
      (λ (at : n * w + v ≡ at_e).
      let pair = same_pair n w v e.switch.0 e.host.0 h within at in
      let x = ap (λ i. get_or (set table at_e (c + 1)) i 0) at ∙ get_or-set_same table at_e (c + 1) 0 fits in
      subst (Forwarded after w v) (sym x) (subst (λ a. Forwarded after a v (c + 1)) (sym pair.0) (subst (λ b. Forwarded after e.switch.0 b (c + 1)) (sym pair.1) (this_pair c leaves))))
      (λ (off : n * w + v ≡ at_e → ⊥).
      subst (Forwarded after w v) (sym (get_or-set_other table at_e (n * w + v) (c + 1) 0 off))
      (other_pair w v _ (λ named. off (ap (λ a. n * a + v) (sym named.0) ∙ ap (λ b. n * e.switch.0 + b) (sym named.1))) (hops w v h)))
      (cases_eq (n * w + v) at_e)
