-- A search among the followers of a point: of an iterator that gives them as `Followers` does. Assumes nothing.
use Rattle.std.proofs.Common.{Bor, ◌≡◌, ℕ, ◌+◌, ◌<◌, ◌≤◌, Bool, true, false, List, [], ◌∷◌, Some, None, Option, MatchOption, sym, ap, ◌∙◌, subst, ⊎_elim, arith}
use Rattle.std.proofs.lemmas.Bool.{cases_lt, cases_eq}
use Rattle.std.specs.Fn.{Mut, CalledAt, TakesAt}
use Rattle.std.specs.Iterator.{Yields, FindsItem, CallableWhileAt}
use Rattle.std.specs.List.{FoldsTo}
use Rattle.ranking.specs.Graphs.{Next}

module _ {S Γ : Type 0} (graph : S → Γ) (point from : S → ℕ) (followed_by : Γ → ℕ → ℕ → Type 0) where
  -- what a call of `next` gives: the least follower that is left
  abbrev Gives : S → Option ℕ → S → Type 0
  Gives s r t = (graph t ≡ graph s) × (point t ≡ point s) × Next (followed_by (graph s) (point s)) (from s) r × MatchOption r (from t ≡ from s) (λ y. from t ≡ y + 1)

  -- P does not hold where test f answers no, which leaves it as it was
  module _ {F : Type 0} {call : Mut F (Bor ℕ × Unit {0}) Bool} (f : F) (P : ℕ → Type 0) (no : (x : ℕ) (q : F) → CalledAt call f x false q → (q ≡ f) × (P x → ⊥)) where
    -- calls led from s to t, and f answered no each time
    record Passed (s t : S) (q : F) : Type 0 where
      stays : q ≡ f
      same_graph : graph t ≡ graph s
      same_point : point t ≡ point s
      over : (x : ℕ) → from s ≤ x → x < from t → P x → followed_by (graph s) (point s) x → ⊥

    passed : (xs : List ℕ) (s t : S) (q : F) → Yields Gives s xs t → FoldsTo (λ p x q. CalledAt call p x false q) f xs q → Passed s t q
    passed [] s t q y c =
        record { stays = sym c; same_graph = ap graph (sym y); same_point = ap point (sym y); over = λ x l u h m. omega (arith, ap from y) }
    passed (x ∷ xs) s t q y c =
        let one = no x c.0 c.1 in
        let at = y.1 in
        let rest = passed xs y.0 t q y.2 (subst (λ k. FoldsTo (λ p x q. CalledAt call p x false q) k xs q) one.0 c.2) in
        record {
          stays = rest.stays;
          same_graph = rest.same_graph ∙ at.0;
          same_point = rest.same_point ∙ at.1;
          over = λ z l u h m.
              ⊎_elim
              (λ (low : z < x). at.2.2 z l low m)
              (λ (high : x ≤ z).
              ⊎_elim
              (λ (e : z ≡ x). one.1 (subst P e h))
              (λ (other : z ≡ x → ⊥). rest.over z (omega (arith, at.3)) u h (rw (at.0, at.1) m))
              (cases_eq z x))
              (cases_lt z x);
        }

    -- from point y of graph k on
    module _ (k : Γ) (y : ℕ) (s : S) (in_graph : graph s ≡ k) (at_point : point s ≡ y) where
      -- f is asked of followers alone
      pub asked : ((x : ℕ) → followed_by k y x → TakesAt call f x) → CallableWhileAt Gives call false s f
      asked may = record {
        at = λ xs t q x u came told e.
            let p = passed xs s t q came told in
            subst (λ k. TakesAt call k x) (sym p.stays) (may x (rw (p.same_graph ∙ in_graph, p.same_point ∙ at_point) at e.2.1));
      }

      -- and a search finds one of them at which P holds, or P holds of none
      pub sought :
          ((x : ℕ) (q : F) → CalledAt call f x true q → P x) → from s ≡ 0 → (r : Option ℕ) (u : S) → FindsItem Gives call s f r u →
          MatchOption r ((x : ℕ) → P x → followed_by k y x → ⊥) (λ x. P x × followed_by k y x)
      sought told start None u d = λ x h m.
          let p = passed d.0 s d.2.0 d.1 d.2.1 d.3 in
          ⊎_elim
          (λ (before : x < from d.2.0). p.over x (omega arith) before h (rw (in_graph, at_point) m))
          (λ (left : from d.2.0 ≤ x). d.2.2.2 x left (rw (p.same_graph ∙ in_graph, p.same_point ∙ at_point) m))
          (cases_lt x (from d.2.0))
      sought told start (Some x) u d =
          let p = passed d.0 s d.2.0 d.1 d.2.1 d.3 in
          (told x d.4.0 (subst (λ k. CalledAt call k x true d.4.0) p.stays d.4.1), rw (p.same_graph ∙ in_graph, p.same_point ∙ at_point) at d.2.2.2.1)
