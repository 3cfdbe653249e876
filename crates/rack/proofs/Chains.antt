-- What a chain over cables or nodes answers, as a contract says it. Assumes nothing.
use Rattle.std.proofs.Common.{◌≡◌, ℕ, ◌+◌, ◌<◌, ◌⊎◌, Bool, true, false, List, length, get_or, Some, None, Option, MatchOption, MatchBool, Decides, sym, refl, ap, ◌∙◌, subst, inl, inr, arith}
use Rattle.std.specs.List.{AllWithin, HoldsAt, enumerate_from}
use Rattle.std.proofs.lemmas.Bool.{false≢true}
use Rattle.std.proofs.lemmas.Bool.Decides.{Decides-like}
use Rattle.std.proofs.lemmas.List.FromFn.{get_or-enumerate_from, length-enumerate_from}
use Rattle.rack.specs.declared.cable.Cable.{Cable}
use Rattle.rack.specs.declared.cable.End.{End}
use Rattle.rack.specs.Network.{none, EndsAt, FreeEnd, Uncabled}

-- `all`, of what is asked of each element
pub all_decides : {X : Type 0} (P : X → Type 0) (xs : List X) (d : X) (r : Bool) → MatchBool r (AllWithin P xs 0 (length xs)) ((k : ℕ) × (k < length xs) × HoldsAt (λ x. P x → ⊥) xs k) → Decides r ((k : ℕ) → k < length xs → P (get_or xs k d))
all_decides P xs d true all = (λ _. λ k h. all k d (omega arith) h, λ _. refl)
all_decides P xs d false some = (λ e. absurd (false≢true e), λ all. absurd (some.2 d (all some.0 some.1)))

-- and of each element and its place
pub all_numbered_decides :
    {X : Type 0} (P : ℕ → X → Type 0) (xs : List X) (d : X) (r : Bool) →
    MatchBool r (AllWithin (λ p. P p.0 p.1) (enumerate_from 0 xs) 0 (length (enumerate_from 0 xs))) ((k : ℕ) × (k < length (enumerate_from 0 xs)) × HoldsAt (λ p. P p.0 p.1 → ⊥) (enumerate_from 0 xs) k) →
    Decides r ((k : ℕ) → k < length xs → P k (get_or xs k d))
all_numbered_decides {X} P xs d r told =
    let Q : ℕ × X → Type 0 = λ p. P p.0 p.1 in
    let at : (k : ℕ) → k < length xs → get_or (enumerate_from 0 xs) k (0, d) ≡ (k, get_or xs k d) = λ k h. let e : 0 + k ≡ k = omega arith in get_or-enumerate_from 0 xs k (0, d) h ∙ ap {B = ℕ × X} (λ n. (n, get_or xs k d)) e in
    Decides-like r (λ all k h. subst Q (at k h) (all k (rw length-enumerate_from h))) (λ all k h. let h' = rw length-enumerate_from at h in subst Q (sym (at k h')) (all k h')) (all_decides Q (enumerate_from 0 xs) (0, d) r told)

-- `position`, of the cable that ends there
pub cable_from_position :
    (cables : List Cable) (e : End) (o : Option ℕ) →
    MatchOption o (AllWithin (λ c. EndsAt c e → ⊥) cables 0 (length cables)) (λ k. (k < length cables) × HoldsAt (λ c. EndsAt c e) cables k × AllWithin (λ c. EndsAt c e → ⊥) cables 0 k) →
    MatchOption o (FreeEnd cables e) (λ k. (k < length cables) × EndsAt (get_or cables k none) e)
cable_from_position cables e None all = λ k h. all k none (omega arith) h
cable_from_position cables e (Some k) found = (found.0, found.1 none)

abbrev pub EndsAtNode : ℕ → Cable → Type 0
EndsAtNode v c = (c.first.node.0 ≡ v) ⊎ (c.second.node.0 ≡ v)

-- `any`, of the cables that end at the node
pub cabled_from_any :
    (cables : List Cable) (v : ℕ) (r : Bool) →
    MatchBool r ((k : ℕ) × (k < length cables) × HoldsAt (EndsAtNode v) cables k) (AllWithin (λ c. EndsAtNode v c → ⊥) cables 0 (length cables)) →
    MatchBool r ((k : ℕ) × (k < length cables) × EndsAtNode v (get_or cables k none)) (Uncabled cables v)
cabled_from_any cables v true some = (some.0, some.1, some.2 none)
cabled_from_any cables v false all = λ k h. (λ e. all k none (omega arith) h (inl e), λ e. all k none (omega arith) h (inr e))
