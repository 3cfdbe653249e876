-- Tables that show a list. Assumes nothing.
use Rattle.std.proofs.Common.{◌≡◌, ℕ, ◌<◌, ◌≤◌, ◌≢◌, ◌⊎◌, List, [], ◌∷◌, ◌++◌, length, get_or, take, set, replicate, sym, ap, ◌∙◌, ⊎_elim, arith}
use Rattle.std.proofs.lemmas.List.{get_or-set_same, get_or-set_other, get_or_push, get_or_past, get_or_append_left, get_or-take, length_push, length-take-le, ext_get_or}
use Rattle.std.proofs.lemmas.Simd.{length-replicate, get_or-replicate}
use Rattle.std.proofs.lemmas.Bool.{cases_lt, cases_order}
use Rattle.rack.specs.declared.cable.Cable.{Cable}
use Rattle.rack.specs.Network.{JoinsPorts}

-- a table that shows xs, at the next place x, shows xs and x
pub shows_push :
    {X : Type 0} (xs table : List X) (d x : X) (n : ℕ) → n ≡ length xs → n < length table → ((k : ℕ) → get_or table k d ≡ get_or xs k d) →
    (k : ℕ) → get_or (set table n x) k d ≡ get_or (xs ++ x ∷ []) k d
shows_push xs table d x n is within shows k =
    ⊎_elim
    (λ (e : k ≡ n). ap (λ i. get_or (set table n x) i d) e ∙ get_or-set_same table n x d within ∙ sym (get_or_push xs x d n (sym is)) ∙ ap (λ i. get_or (xs ++ x ∷ []) i d) (sym e))
    (λ (apart : (k < n) ⊎ (n < k)).
    let other : k ≢ n = λ e. ⊎_elim (λ l. omega arith) (λ l. omega arith) apart in
    get_or-set_other table n k x d other
    ∙ shows k
    ∙ ⊎_elim
    (λ (low : k < n). sym (get_or_append_left xs (x ∷ []) d k (omega arith)))
    (λ (high : n < k). get_or_past xs k d (omega arith) ∙ sym (get_or_past (xs ++ x ∷ []) k d (rw length_push (omega arith))))
    apart)
    (cases_order k n)

-- and its front is xs
pub shows_front :
    {X : Type 0} (xs table : List X) (d : X) (n : ℕ) → n ≡ length xs → n ≤ length table → ((k : ℕ) → get_or table k d ≡ get_or xs k d) → take n table ≡ xs
shows_front xs table d n is within shows =
    let long = length-take-le n table within in
    ext_get_or d _ _ (long ∙ is) (λ i h. get_or-take n table i d (omega arith) ∙ shows i)

-- whether a cable joins ports is told by the kinds of its nodes
pub joins_alike : (xs ys : List ℕ) (c : Cable) → ((k : ℕ) → get_or xs k 0 ≡ get_or ys k 0) → JoinsPorts xs c → JoinsPorts ys c
joins_alike xs ys c same h = rw (same c.first.node.0, same c.second.node.0) at h

-- a table that is one value throughout
pub all_one : {X : Type 0} (table : List X) (n : ℕ) (x d : X) → table ≡ replicate n x → x ≡ d → (k : ℕ) → get_or table k d ≡ d
all_one table n x d is same k =
    ap (λ t. get_or t k d) is
    ∙ ⊎_elim
    (λ (low : k < n). get_or-replicate n k x d low ∙ same)
    (λ (high : n ≤ k). get_or_past (replicate n x) k d (rw length-replicate (omega arith)))
    (cases_lt k n)
