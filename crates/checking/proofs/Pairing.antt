-- Pair by pair: what is fine so far, and what is marked. Assumes nothing.
use Rattle.std.proofs.Common.{◌≡◌, ℕ, ◌+◌, ◌<◌, ◌≤◌, true, ◌⊎◌, List, length, None, Some, get_or, replicate, sym, ap, ◌∙◌, subst, inl, inr, ⊎_elim, arith}
use Rattle.std.proofs.lemmas.List.{get_or-replicate, get_or_past, length-replicate}
use Rattle.routing.specs.Turns.{turn_count}
use Rattle.checking.specs.Words.{bit}
use Rattle.checking.proofs.Scans.{bit_zero}
use Rattle.std.proofs.lemmas.Bool.{both_ways, cases_lt}
use Rattle.rack.specs.Racks.{channel_count}
use Rattle.routing.specs.declared.pair.Pair.{Pair}
use Rattle.routing.specs.Paths.{Routing, PairOf}
use Rattle.routing.specs.Pairs.{pair_place, NextPair}
use Rattle.routing.proofs.PairOrder.{place_same, place_earlier}
use Rattle.checking.specs.declared.fault.CheckFault.{CheckFault}
use Rattle.checking.specs.Plans.{FinePair, AllFine, AtFault, FirstFault}
use Rattle.checking.specs.Marks.{Adds, PairSays, AllSay, Collected}
use Rattle.checking.proofs.Adding.{adds_both, adds_none}

-- the pairs whose place is below n are fine
abbrev pub FirstFine : Routing → List ℕ → ℕ → ℕ → Type 0
FirstFine g levels lanes n = (u v : ℕ) → PairOf g.rack u v → pair_place g.rack u v < n → FinePair g levels lanes u v

-- some hop of the path of one of them, and the next
abbrev pub FirstSay : Routing → List ℕ → ℕ → ℕ → ℕ → Type 0
FirstSay g levels n k b = (u : ℕ) × (v : ℕ) × PairOf g.rack u v × (pair_place g.rack u v < n) × PairSays g levels u v k b

module _ (g : Routing) (levels : List ℕ) (lanes : ℕ) where
  module _ (k : ℕ) (p : Pair) (next : NextPair g.rack k (Some p)) where
    abbrev u : ℕ
    u = p.sender.0

    abbrev v : ℕ
    v = p.receiver.0

    -- a pair up to the next is one that was taken, or the next
    up_to : (a b : ℕ) → PairOf g.rack a b → pair_place g.rack a b < pair_place g.rack u v + 1 → (pair_place g.rack a b < k) ⊎ ((a ≡ u) × (b ≡ v))
    up_to a b q l =
        ⊎_elim
        (λ (low : pair_place g.rack a b < k). inl low)
        (λ (high : k ≤ pair_place g.rack a b). inr (place_same g.rack a b u v q next.0 (omega (arith, next.2 a b q high))))
        (cases_lt (pair_place g.rack a b) k)

    pub pairs_more :
        (s t w : List ℕ) → FinePair g levels lanes u v → FirstFine g levels lanes k → Adds (FirstSay g levels k) s t → Adds (PairSays g levels u v) t w →
        FirstFine g levels lanes (pair_place g.rack u v + 1) × Adds (FirstSay g levels (pair_place g.rack u v + 1)) s w
    pairs_more s t w here fine one two = (
      λ a b q l.
          ⊎_elim
          (λ (low : pair_place g.rack a b < k). fine a b q low)
          (λ (e : (a ≡ u) × (b ≡ v)). subst (λ x. FinePair g levels lanes x b) (sym e.0) (subst (FinePair g levels lanes u) (sym e.1) here))
          (up_to a b q l),
      adds_both (FirstSay g levels k) (PairSays g levels u v) (FirstSay g levels (pair_place g.rack u v + 1)) s t w
          (λ j b h.
          ⊎_elim
          (λ (low : pair_place g.rack h.0 h.1 < k). inl (h.0, h.1, h.2, low, h.4))
          (λ (e : (h.0 ≡ u) × (h.1 ≡ v)). inr (subst (λ x. PairSays g levels x v j b) e.0 (subst (λ x. PairSays g levels h.0 x j b) e.1 h.4)))
          (up_to h.0 h.1 h.2 h.3))
          (λ j b h. (h.0, h.1, h.2, omega (arith, h.3, next.1), h.4)) (λ j b h. (u, v, next.0, omega arith, h)) one two,
    )

    pub first_fault : (f : CheckFault) → FirstFine g levels lanes k → AtFault g levels lanes p f → FirstFault g levels lanes f
    first_fault f fine at = (
      p,
      next.0,
      λ a b q earlier.
          let before = place_earlier g.rack a b u v q earlier in
          ⊎_elim
          (λ (low : pair_place g.rack a b < k). fine a b q low)
          (λ (high : k ≤ pair_place g.rack a b). absurd (let least = next.2 a b q high in omega (arith, before)))
          (cases_lt (pair_place g.rack a b) k),
      at,
    )

  -- no pair is left
  pub pairs_end : (k : ℕ) (s t : List ℕ) → NextPair g.rack k None → FirstFine g levels lanes k → Adds (FirstSay g levels k) s t → AllFine g levels lanes × Adds (AllSay g levels) s t
  pairs_end k s t none fine adds = (
    λ u v p. fine u v p (none u v p),
    adds_both (FirstSay g levels k) (λ _ _. ⊥) (AllSay g levels) s t t
        (λ j b h. inl (h.0, h.1, h.2, none h.0 h.1 h.2, h.3))
        (λ j b h. (h.0, h.1, h.2, h.4))
        (λ j b h. absurd h) adds (adds_none (λ _ _. ⊥) t (λ j b h. h)),
  )

-- the marks, from a table of zeros
pub collected :
    (g : Routing) (levels : List ℕ) (lanes : ℕ) (s t : List ℕ) → AllFine g levels lanes → Adds (AllSay g levels) s t → ((k : ℕ) → get_or s k 0 ≡ 0) →
    length t ≡ turn_count (channel_count g.rack) → Collected g levels lanes t
collected g levels lanes s t fine adds zeros long = (
  fine,
  long,
  λ k b. (
    λ h. ⊎_elim
        (λ (z : bit (get_or s k 0) b ≡ true). absurd (both_ways (bit (get_or s k 0) b) (ap (λ n. bit n b) (zeros k) ∙ bit_zero b) z))
        (λ (m : AllSay g levels k b). m)
        ((adds k b).0 h),
    λ m. (adds k b).1 (inr m),
  ),
)

-- a table of zeros
pub zero_at : (n k : ℕ) → ◌≡◌ {A = ℕ} (get_or (replicate n 0) k 0) 0
zero_at n k =
    ⊎_elim
    (λ (l : k < n). get_or-replicate n k 0 0 l)
    (λ (l : n ≤ k). get_or_past (replicate n 0) k 0 (rw length-replicate l))
    (cases_lt k n)
