-- A file has one answer. Assumes nothing.
use Rattle.std.proofs.Common.{◌≡◌, ℕ, ◌<◌, ◌⊎◌, List, [], ◌∷◌, Ok, Err, sym, refl, ap, ◌∙◌, subst, inl, inr, ⊎_elim}
use Rattle.std.proofs.lemmas.Bool.{cases_order}
use Rattle.reading.specs.declared.fault.Rule.{Rule}
use Rattle.reading.specs.declared.fault.FileFault.TheVariants.{Tables, Length, Record as Broken, Uncabled as Bare}
use Rattle.reading.specs.declared.limits.Limits.{Limits}
use Rattle.reading.specs.Format.{said}
use Rattle.reading.specs.Rules.{Asks, Kept, Breaks, Fine, asked, described}
use Rattle.rack_laws.specs.Files.{OneAnswer}

broken_once : (ds : List Asks) (p q : Rule) → Breaks ds p → Breaks ds q → p ≡ q
broken_once [] p q h k = absurd h
broken_once (d ∷ ds) p q (inl h) (inl k) = sym h.0 ∙ k.0
broken_once (d ∷ ds) p q (inl h) (inr k) = absurd (h.1 k.0)
broken_once (d ∷ ds) p q (inr h) (inl k) = absurd (k.1 h.0)
broken_once (d ∷ ds) p q (inr h) (inr k) = broken_once ds p q h.1 k.1

kept_or_broken : (ds : List Asks) (p : Rule) → Kept ds → Breaks ds p → ⊥
kept_or_broken [] p h k = k
kept_or_broken (d ∷ ds) p h (inl k) = k.1 h.0
kept_or_broken (d ∷ ds) p h (inr k) = kept_or_broken ds p h.1 k.1

first_once : (limits : Limits) (f : List ℕ) (i j : ℕ) (p q : Rule) → Fine limits f i → Breaks (asked limits (described f i) (said f i)) p → Fine limits f j → Breaks (asked limits (described f j) (said f j)) q → Broken i p ≡ Broken j q
first_once limits f i j p q fine h fine' k =
    ⊎_elim
    (λ (e : i ≡ j).
    ap (λ x. Broken x p) e ∙ ap (Broken j) (broken_once _ p q (subst (λ x. Breaks (asked limits (described f x) (said f x)) p) e h) k))
    (λ (apart : (i < j) ⊎ (j < i)).
    absurd (⊎_elim (λ (l : i < j). kept_or_broken _ p (fine' i l) h) (λ (l : j < i). kept_or_broken _ q (fine j l) k) apart))
    (cases_order i j)

pub one_answer : OneAnswer
one_answer limits f (Ok a) (Ok b) n n' c c' w w' h k =
    let e : a ≡ b = λ i. record {
      nodes = (h.3.node_count ∙ sym k.3.node_count) i;
      cables = (h.3.cable_count ∙ sym k.3.cable_count) i;
      entries = (h.3.entry_count ∙ sym k.3.entry_count) i;
    } in
    ap Ok e
one_answer limits f (Ok a) (Err Tables) n n' c c' w w' h k = absurd k
one_answer limits f (Ok a) (Err Length) n n' c c' w w' h k = absurd (k h.0)
one_answer limits f (Ok a) (Err (Broken i p)) n n' c c' w w' h k = absurd (kept_or_broken _ p (h.1 i k.1) k.3)
one_answer limits f (Ok a) (Err (Bare v)) n n' c c' w w' h k = absurd (h.2 v k.2)
one_answer limits f (Err Tables) s n n' c c' w w' h k = absurd h
one_answer limits f (Err Length) (Err Length) n n' c c' w w' h k = refl
one_answer limits f (Err Length) (Err Tables) n n' c c' w w' h k = absurd k
one_answer limits f (Err Length) _ n n' c c' w w' h k = absurd (h k.0)
one_answer limits f (Err (Broken i p)) (Err Tables) n n' c c' w w' h k = absurd k
one_answer limits f (Err (Broken i p)) (Err Length) n n' c c' w w' h k = absurd (k h.0)
one_answer limits f (Err (Broken i p)) (Err (Broken j q)) n n' c c' w w' h k = ap Err (first_once limits f i j p q h.2 h.3 k.2 k.3)
one_answer limits f (Err (Broken i p)) _ n n' c c' w w' h k = absurd (kept_or_broken _ p (k.1 i h.1) h.3)
one_answer limits f (Err (Bare u)) (Ok b) n n' c c' w w' h k = absurd (k.2 u h.2)
one_answer limits f (Err (Bare u)) (Err Tables) n n' c c' w w' h k = absurd k
one_answer limits f (Err (Bare u)) (Err Length) n n' c c' w w' h k = absurd (k h.0)
one_answer limits f (Err (Bare u)) (Err (Broken i p)) n n' c c' w w' h k = absurd (kept_or_broken _ p (h.1 i k.1) k.3)
one_answer limits f (Err (Bare u)) (Err (Bare v)) n n' c c' w w' h k =
    ⊎_elim
    (λ (e : u ≡ v). ap (λ x. Err (Bare x)) e)
    (λ (apart : (u < v) ⊎ (v < u)). absurd (⊎_elim (λ (l : u < v). k.3 u l h.2) (λ (l : v < u). h.3 v l k.2) apart))
    (cases_order u v)
