-- The hops of a path as a list, and tests of such lists. Assumes nothing.
use Rattle.std.proofs.Common.{◌≡◌, ℕ, zero, suc, ◌<◌, Bool, true, false, not, ◌&&◌, ◌||◌, List, [], ◌∷◌, length, Some, None, Option, ◌≢◌, sym, refl, ap, ◌∙◌, ⊎_elim, arith, eqb-true}
use Rattle.std.specs.Prelude.{◌==◌}
use Rattle.std.proofs.lemmas.Bool.{false≢true, or_cases, cases_eq, and_parts}
use Rattle.std.proofs.lemmas.Option.{none-some, same_Some}
use Rattle.routing.specs.Paths.{Hop}
use Rattle.examples.proofs.Nets.{Net, behind_in, ahead}

-- every number below n passes; every two different numbers below n do
abbrev pub all_below : ℕ → (ℕ → Bool) → Bool
all_below zero p = true
all_below (suc n) p = p n && all_below n p

abbrev pub all_pairs : ℕ → (ℕ → ℕ → Bool) → Bool
all_pairs n p = all_below n (λ u. all_below n (λ v. u == v || p u v))

pub from_below : (n : ℕ) (p : ℕ → Bool) → all_below n p ≡ true → (k : ℕ) → k < n → p k ≡ true
from_below zero p e k l = absurd (omega arith)
from_below (suc n) p e k l =
    let both = and_parts (p n) (all_below n p) e in
    ⊎_elim
    (λ (q : k ≡ n). ap p q ∙ both.0)
    (λ (q : k ≡ n → ⊥). from_below n p both.1 k (omega arith))
    (cases_eq k n)

pub implied : (a b : Bool) → not a || b ≡ true → a ≡ true → b ≡ true
implied true b e t = e
implied false b e t = absurd (false≢true t)

pub from_pairs : (n : ℕ) (p : ℕ → ℕ → Bool) → all_pairs n p ≡ true → (u v : ℕ) → u < n → v < n → u ≢ v → p u v ≡ true
from_pairs n p e u v a b ne =
    ⊎_elim
    (λ (t : u == v ≡ true). absurd (ne (eqb-true u v t)))
    (λ (t : p u v ≡ true). t)
    (or_cases (u == v) (p u v) (from_below n (λ v. u == v || p u v) (from_below n (λ u. all_below n (λ v. u == v || p u v)) e u a) v b))

-- the hop at a place of a list
abbrev pub hop_in : List Hop → ℕ → Option Hop
hop_in [] i = None
hop_in (h ∷ hs) zero = Some h
hop_in (h ∷ hs) (suc i) = hop_in hs i

-- the hops from x on, n of them at most
abbrev pub hops : Net → ℕ → ℕ → Option Hop → List Hop
hops m v zero x = []
hops m v (suc n) None = []
hops m v (suc n) (Some h) = h ∷ hops m v n (behind_in m v (Some h))

-- whether the path ends within n hops
abbrev pub ends : Net → ℕ → ℕ → Option Hop → Bool
ends m v n None = true
ends m v zero (Some h) = false
ends m v (suc n) (Some h) = ends m v n (behind_in m v (Some h))

ahead_none : (m : Net) (v i : ℕ) → ahead m v i None ≡ None
ahead_none m v zero = refl
ahead_none m v (suc i) = ap (behind_in m v) (ahead_none m v i)

ahead_more : (m : Net) (v i : ℕ) (x : Option Hop) → ahead m v (suc i) x ≡ ahead m v i (behind_in m v x)
ahead_more m v zero x = refl
ahead_more m v (suc i) x = ap (behind_in m v) (ahead_more m v i x)

-- a path that ends is its list
pub listed : (m : Net) (v n : ℕ) (x : Option Hop) → ends m v n x ≡ true → (i : ℕ) → ahead m v i x ≡ hop_in (hops m v n x) i
listed m v zero None e i = ahead_none m v i
listed m v (suc n) None e i = ahead_none m v i
listed m v zero (Some h) e i = absurd (false≢true e)
listed m v (suc n) (Some h) e zero = refl
listed m v (suc n) (Some h) e (suc i) = ahead_more m v i (Some h) ∙ listed m v n (behind_in m v (Some h)) e i

-- the first n hops are those of the list, whether it ends or not
pub begun : (m : Net) (v n : ℕ) (x : Option Hop) (i : ℕ) → i < n → ahead m v i x ≡ hop_in (hops m v n x) i
begun m v zero x i l = absurd (omega arith)
begun m v (suc n) None i l = ahead_none m v i
begun m v (suc n) (Some h) zero l = refl
begun m v (suc n) (Some h) (suc i) l = ahead_more m v i (Some h) ∙ begun m v n (behind_in m v (Some h)) i (omega arith)

-- every hop passes; every two hops, one behind the other, do
abbrev pub each : (Hop → Bool) → List Hop → Bool
each p [] = true
each p (h ∷ hs) = p h && each p hs

abbrev pub links : (Hop → Hop → Bool) → List Hop → Bool
links p [] = true
links p (h ∷ []) = true
links p (h ∷ (o ∷ hs)) = p h o && links p (o ∷ hs)

pub from_each : (p : Hop → Bool) (hs : List Hop) → each p hs ≡ true → (i : ℕ) (h : Hop) → hop_in hs i ≡ Some h → p h ≡ true
from_each p [] e i h is = absurd (none-some h is)
from_each p (k ∷ hs) e zero h is = ap p (sym (same_Some _ _ is)) ∙ (and_parts (p k) (each p hs) e).0
from_each p (k ∷ hs) e (suc i) h is = from_each p hs (and_parts (p k) (each p hs) e).1 i h is

pub from_links : (p : Hop → Hop → Bool) (hs : List Hop) → links p hs ≡ true → (i : ℕ) (h o : Hop) → hop_in hs i ≡ Some h → hop_in hs (suc i) ≡ Some o → p h o ≡ true
from_links p [] e i h o is then = absurd (none-some h is)
from_links p (k ∷ []) e i h o is then = absurd (none-some o then)
from_links p (k ∷ (l ∷ hs)) e zero h o is then =
    ap (λ (x : Hop). p x o) (sym (same_Some _ _ is)) ∙ ap (p k) (sym (same_Some _ _ then)) ∙ (and_parts (p k l) (links p (l ∷ hs)) e).0
from_links p (k ∷ (l ∷ hs)) e (suc i) h o is then = from_links p (l ∷ hs) (and_parts (p k l) (links p (l ∷ hs)) e).1 i h o is then

-- the last hop passes
abbrev pub lastly : (Hop → Bool) → List Hop → Bool
lastly p [] = false
lastly p (h ∷ []) = p h
lastly p (h ∷ (o ∷ hs)) = lastly p (o ∷ hs)

pub from_lastly : (p : Hop → Bool) (hs : List Hop) → lastly p hs ≡ true → (n : ℕ) × (h : Hop) × (hop_in hs n ≡ Some h) × (p h ≡ true) × (suc n ≡ length hs)
from_lastly p [] e = absurd (false≢true e)
from_lastly p (h ∷ []) e = (0, h, refl, e, refl)
from_lastly p (h ∷ (o ∷ hs)) e = let r = from_lastly p (o ∷ hs) e in (suc r.0, r.1, r.2, r.3, ap suc r.4)
