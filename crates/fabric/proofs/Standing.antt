-- Who waits in the queues of a rack, as calls change it. Assumes nothing.
use Rattle.std.proofs.Common.{◌≡◌, ℕ, zero, suc, ◌<◌, ◌≤◌, List, [], ◌∷◌, ◌++◌, map, length, get_or, take, set, sym, refl, ap, ◌∙◌, ⊎_elim, arith, length-take, get_or-take}
use Rattle.std.proofs.Math.Seq.{take-set-lt}
use Rattle.std.specs.Prelude.{All}
use Rattle.std.proofs.lemmas.List.{get_or-map, get_or_past, length-map, map-append, map-set}
use Rattle.std.proofs.lemmas.List.Elements.{All-weaker}
use Rattle.std.proofs.lemmas.Bool.{cases_lt}
use Rattle.courses.specs.Queues.{Queues, at, push}
use Rattle.courses.specs.Law.{ahead}
use Rattle.courses.proofs.Ways.{ahead_here, ahead_cases}
use Rattle.fabric.specs.declared.packet.Packet.{Packet}
use Rattle.fabric.specs.declared.packet.Delivery.{Delivery}
use Rattle.fabric.specs.Packets.{delivery}

-- a list of which the told form is not empty
pub told_cons : (l : List Packet) (d : Delivery) (ds : List Delivery) → map delivery l ≡ d ∷ ds → (p : Packet) × (ps : List Packet) × (l ≡ p ∷ ps) × (delivery p ≡ d)
told_cons [] d ds e = absurd cc
told_cons (p ∷ ps) d ds e = (p, ps, refl, cc)

pub told_none : (l : List Packet) → map delivery l ≡ [] → l ≡ []
told_none [] e = refl
told_none (p ∷ ps) e = absurd cc

-- a queue of a path has hops ahead
pub some_at : (xs : List ℕ) (j x : ℕ) → j < length xs → get_or xs j 0 ≡ x → 0 < ahead xs x
some_at [] j x l e = absurd (omega arith)
some_at (z ∷ xs) zero x l e = omega (arith, ap (ahead (z ∷ xs)) (sym e), ahead_here z xs)
some_at (z ∷ xs) (suc j) x l e =
    ⊎_elim (λ t. omega (arith, t.1)) (λ t. omega (arith, t.1, some_at xs j x (omega arith) e)) (ahead_cases z xs x)

-- what holds in the first n queues, said of every queue
module _ (n : ℕ) (I : ℕ → Packet → Type 0) (q : Queues Packet) where
  pub bounded : ((z : ℕ) → z < n → All (I z) (at q z)) → (z : ℕ) → All (λ p. z < n → I z p) (at q z)
  bounded h z =
      ⊎_elim
      (λ (l : z < n). All-weaker (I z) (λ p. z < n → I z p) (λ p i m. i) (at q z) (h z l))
      (λ (l : n ≤ z). λ k d lt m. absurd (omega arith))
      (cases_lt z n)

  pub unbounded : ((z : ℕ) → All (λ p. z < n → I z p) (at q z)) → (z : ℕ) → z < n → All (I z) (at q z)
  unbounded h z l = All-weaker (λ p. z < n → I z p) (I z) (λ p i. i l) (at q z) (h z)

-- the first n queues, as they are told
module _ (n : ℕ) where
  abbrev pub stand : Queues Packet → Queues Delivery
  stand q = map (map delivery) (take n q)

  module _ (q : Queues Packet) (long : n ≤ length q) where
    pub stand_length : length (stand q) ≡ n
    stand_length = omega (arith, length-map (take n q) (map delivery), length-take n q)

    pub stand_at : (x : ℕ) → x < n → at (stand q) x ≡ map delivery (at q x)
    stand_at x l = get_or-map (map delivery) (take n q) x [] [] (omega (arith, length-take n q)) ∙ ap (map delivery) (get_or-take n q x [] l)

    pub stand_past : (x : ℕ) → n ≤ x → at (stand q) x ≡ []
    stand_past x l = get_or_past (stand q) x [] (omega (arith, stand_length))

    pub stand_set : (x : ℕ) (l : List Packet) → x < n → stand (set q x l) ≡ set (stand q) x (map delivery l)
    stand_set x l h = ap (map (map delivery)) (take-set-lt n q x l h) ∙ map-set (map delivery) (take n q) x l

    pub stand_push : (x : ℕ) (p : Packet) → x < n → stand (push q x p) ≡ push (stand q) x (delivery p)
    stand_push x p h = stand_set x (at q x ++ (p ∷ [])) h ∙ ap (set (stand q) x) (map-append delivery (at q x) (p ∷ []) ∙ ap (λ l. l ++ (delivery p ∷ [])) (sym (stand_at x h)))

    -- nothing waits in the first n queues exactly if nothing is told of any
    pub stand_none : ((x : ℕ) → x < n → at q x ≡ []) → (x : ℕ) → at (stand q) x ≡ []
    stand_none h x =
        ⊎_elim
        (λ (l : x < n). stand_at x l ∙ ap (map delivery) (h x l))
        (λ (l : n ≤ x). stand_past x l)
        (cases_lt x n)

    pub none_stands : ((x : ℕ) → at (stand q) x ≡ []) → (x : ℕ) → x < n → at q x ≡ []
    none_stands h x l = told_none (at q x) (sym (stand_at x l) ∙ h x)
