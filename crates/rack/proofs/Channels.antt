-- The two channels of a cable, and the ports that they leave. Assumes nothing.
use Rattle.std.proofs.Common.{◌≡◌, ℕ, zero, suc, ◌+◌, ◌*◌, ◌/◌, ◌%◌, ◌<◌, ◌≤◌, true, false, cond, eqb, List, length, get_or, take, sym, refl, ap, ◌∙◌, subst, inl, inr, ⊎_elim, arith}
use Rattle.std.proofs.lemmas.List.{get_or-take, length-take-le}
use Rattle.std.proofs.lemmas.Bool.{cases_lt, cases_eq}
use Rattle.rack.specs.declared.cable.Cable.{Cable}
use Rattle.rack.specs.declared.cable.End.{End}
use Rattle.rack.specs.Network.{none, channels, tail_end, head_end, EndsAt, FreeEnd, Apart, Leaves}

-- what holds of the two ends of each cable, either way round, holds of the two ends of each channel
pub both_ways : (P : End → End → Type 0) (cs : List Cable) (c : ℕ) → P (get_or cs (c / 2) none).first (get_or cs (c / 2) none).second → P (get_or cs (c / 2) none).second (get_or cs (c / 2) none).first → P (tail_end cs c) (head_end cs c)
both_ways P cs c there back =
    let f = (get_or cs (c / 2) none).first in
    let s = (get_or cs (c / 2) none).second in
    elim (eqb (c % 2) 0) as (λ b. P (cond b f s) (cond b s f)) [ true ↦ there | false ↦ back ]

pub half_below : (cs : List Cable) (c : ℕ) → c < channels cs → c / 2 < length cs
half_below cs c h = omega arith

pub tail_even : (cs : List Cable) (k : ℕ) → tail_end cs (2 * k) ≡ (get_or cs k none).first
tail_even cs k = let e : (2 * k) % 2 ≡ 0 = omega arith in let d : (2 * k) / 2 ≡ k = omega arith in rw (e, d)

pub tail_odd : (cs : List Cable) (k : ℕ) → tail_end cs (2 * k + 1) ≡ (get_or cs k none).second
tail_odd cs k = let e : (2 * k + 1) % 2 ≡ 1 = omega arith in let d : (2 * k + 1) / 2 ≡ k = omega arith in rw (e, d)

-- a channel's tail is an end of its cable
pub tail_ends : (cs : List Cable) (c : ℕ) → EndsAt (get_or cs (c / 2) none) (tail_end cs c)
tail_ends cs c = both_ways (λ t _. EndsAt (get_or cs (c / 2) none) t) cs c (inl refl) (inr refl)

-- each end of a cable is the tail of one of its channels
pub ends_tail : (cs : List Cable) (k : ℕ) (e : End) → EndsAt (get_or cs k none) e → (c : ℕ) × (c / 2 ≡ k) × (tail_end cs c ≡ e)
ends_tail cs k e (inl is) = (2 * k, omega arith, tail_even cs k ∙ is)
ends_tail cs k e (inr is) = (2 * k + 1, omega arith, tail_odd cs k ∙ is)

-- so a channel leaves by each end of a cable, and none where no cable ends
pub leaves_first : (cs : List Cable) (e : End) (k : ℕ) → k < length cs → (get_or cs k none).first ≡ e → Leaves cs e (2 * k)
leaves_first cs e k within is = (omega arith, tail_even cs k ∙ is)

pub leaves_second : (cs : List Cable) (e : End) (k : ℕ) → k < length cs → (get_or cs k none).second ≡ e → Leaves cs e (2 * k + 1)
leaves_second cs e k within is = (omega arith, tail_odd cs k ∙ is)

pub none_leaves : (cs : List Cable) (e : End) → FreeEnd cs e → (c : ℕ) → Leaves cs e c → ⊥
none_leaves cs e free c h = free (c / 2) (omega (arith, h.0)) (subst (EndsAt (get_or cs (c / 2) none)) h.1 (tail_ends cs c))

-- the first k cables end at ports of their own
abbrev pub ApartBelow : List Cable → ℕ → Type 0
ApartBelow cs k = (b c : ℕ) → (b < 2 * k) × (c < 2 * k) × (tail_end cs b ≡ tail_end cs c) → b ≡ c

-- none of the first k cables ends there
abbrev pub FreeBelow : List Cable → ℕ → End → Type 0
FreeBelow cs k e = (j : ℕ) → j < k → EndsAt (get_or cs j none) e → ⊥

pub free_front : (cs : List Cable) (k : ℕ) (e : End) → k ≤ length cs → FreeEnd (take k cs) e → FreeBelow cs k e
free_front cs k e within free j h at =
    let long = length-take-le k cs within in
    free j (omega arith) (subst (λ d. EndsAt d e) (sym (get_or-take k cs j none h)) at)

-- a channel of the first k cables, and one of cable k
apart_old_new : (cs : List Cable) (k b c : ℕ) → b < 2 * k → c / 2 ≡ k → FreeBelow cs k (get_or cs k none).first → FreeBelow cs k (get_or cs k none).second → tail_end cs b ≡ tail_end cs c → ⊥
apart_old_new cs k b c low at free free' same =
    both_ways (λ t _. EndsAt (get_or cs (b / 2) none) t → ⊥) cs c
    (subst (λ i. EndsAt (get_or cs (b / 2) none) (get_or cs i none).first → ⊥) (sym at) (free (b / 2) (omega arith)))
    (subst (λ i. EndsAt (get_or cs (b / 2) none) (get_or cs i none).second → ⊥) (sym at) (free' (b / 2) (omega arith)))
    (subst (EndsAt (get_or cs (b / 2) none)) same (tail_ends cs b))

-- the two channels of a cable between two nodes
apart_new : (cs : List Cable) (k b c : ℕ) → ((get_or cs k none).first.node.0 ≡ (get_or cs k none).second.node.0 → ⊥) → b / 2 ≡ k → c / 2 ≡ k → tail_end cs b ≡ tail_end cs c → b ≡ c
apart_new cs k b c differ at at' same =
    let f = (get_or cs k none).first in
    let s = (get_or cs k none).second in
    let same' : cond (eqb (b % 2) 0) f s ≡ cond (eqb (c % 2) 0) f s = rw (at, at') at same in
    ⊎_elim
    (λ (e : b % 2 ≡ 0).
    ⊎_elim
    (λ (e' : c % 2 ≡ 0). omega arith)
    (λ (e' : c % 2 ≡ 0 → ⊥). let o : c % 2 ≡ 1 = omega arith in absurd (differ (ap (λ (x : End). x.node.0) (rw (e, o) at same'))))
    (cases_eq (c % 2) 0))
    (λ (e : b % 2 ≡ 0 → ⊥).
    let o : b % 2 ≡ 1 = omega arith in
    ⊎_elim
    (λ (e' : c % 2 ≡ 0). absurd (differ (ap (λ (x : End). x.node.0) (sym (rw (o, e') at same')))))
    (λ (e' : c % 2 ≡ 0 → ⊥). omega arith)
    (cases_eq (c % 2) 0))
    (cases_eq (b % 2) 0)

pub apart_more :
    (cs : List Cable) (k : ℕ) → ((get_or cs k none).first.node.0 ≡ (get_or cs k none).second.node.0 → ⊥) →
    FreeBelow cs k (get_or cs k none).first → FreeBelow cs k (get_or cs k none).second → ApartBelow cs k → ApartBelow cs (suc k)
apart_more cs k differ free free' old b c h =
    ⊎_elim
    (λ (l : b < 2 * k).
    ⊎_elim
    (λ (m : c < 2 * k). old b c (l, m, h.2))
    (λ (m : 2 * k ≤ c). absurd (apart_old_new cs k b c l (omega (arith, h.1)) free free' h.2))
    (cases_lt c (2 * k)))
    (λ (l : 2 * k ≤ b).
    ⊎_elim
    (λ (m : c < 2 * k). absurd (apart_old_new cs k c b m (omega (arith, h.0)) free free' (sym h.2)))
    (λ (m : 2 * k ≤ c). apart_new cs k b c differ (omega (arith, h.0)) (omega (arith, h.1)) h.2)
    (cases_lt c (2 * k)))
    (cases_lt b (2 * k))

-- no cable before cable k ends where it does
pub apart_free : (cs : List Cable) (k : ℕ) (e : End) → k < length cs → EndsAt (get_or cs k none) e → Apart cs → FreeEnd (take k cs) e
apart_free cs k e h at apart j l at' =
    let long = length-take-le k cs (omega arith) in
    let b = ends_tail cs j e (subst (λ d. EndsAt d e) (get_or-take k cs j none (omega arith)) at') in
    let c = ends_tail cs k e at in
    let same = apart b.0 c.0 (omega (arith, b.1), omega (arith, c.1), b.2 ∙ sym c.2) in
    omega (arith, b.1, c.1, ap (λ n. n / 2) same)

-- none of the cables ends where the cable does
abbrev pub IsFree : List Cable → Cable → Type 0
IsFree cs c = FreeEnd cs c.first × FreeEnd cs c.second

-- cables, each between two different nodes and none where one before it ends, are at ports of their own
module _ (cs : List Cable) (differ : (k : ℕ) → k < length cs → (get_or cs k none).first.node.0 ≡ (get_or cs k none).second.node.0 → ⊥) (free : (k : ℕ) → k < length cs → IsFree (take k cs) (get_or cs k none)) where
  apart_below : (k : ℕ) → k ≤ length cs → ApartBelow cs k
  apart_below zero within = λ b c h. absurd (omega (arith, h.0))
  apart_below (suc k) within =
      let here = free k (omega arith) in
      apart_more cs k (differ k (omega arith)) (free_front cs k _ (omega arith) here.0) (free_front cs k _ (omega arith) here.1) (apart_below k (omega arith))

  pub apart_from_free : Apart cs
  apart_from_free = apart_below (length cs) (omega arith)

-- and where they are, none ends where one before it does
pub free_from_apart : (cs : List Cable) → Apart cs → (k : ℕ) → k < length cs → IsFree (take k cs) (get_or cs k none)
free_from_apart cs apart k h = (apart_free cs k _ h (inl refl) apart, apart_free cs k _ h (inr refl) apart)
