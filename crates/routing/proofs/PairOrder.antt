-- The pairs of different hosts in their order, one more at a time. Assumes nothing.
use Rattle.std.proofs.Common.{◌≡◌, ℕ, zero, suc, ◌+◌, ◌-◌, ◌*◌, ◌/◌, ◌<◌, ◌≤◌, ◌⊎◌, None, Some, refl, sym, ap, ◌∙◌, subst, inl, ⊎_elim, mul_comm, arith}
use Rattle.std.proofs.Math.Nat.{mul-suc}
use Rattle.std.proofs.lemmas.Nat.{mul-add-lt}
use Rattle.std.proofs.lemmas.Bool.{cases_lt, cases_eq}
use Rattle.rack.specs.declared.rack.Rack.{Rack}
use Rattle.rack.specs.Racks.{node_count}
use Rattle.rack.proofs.Facts.{host_below}
use Rattle.routing.specs.declared.pair.Pair.{Pair}
use Rattle.routing.specs.Paths.{PairOf}
use Rattle.routing.specs.Pairs.{pair_place, NextOf, NextPair}
use Rattle.routing.proofs.Columns.{pair_below, same_pair}

module _ (r : Rack) where
  abbrev n : ℕ
  n = node_count r

  -- a pair's place lies in the table
  pub place_below : (u v : ℕ) → PairOf r u v → pair_place r u v < n * n
  place_below u v p = pair_below n u v (host_below r u p.0) (host_below r v p.1)

  -- pairs with one place are one pair
  pub place_same : (u v a b : ℕ) → PairOf r u v → PairOf r a b → pair_place r u v ≡ pair_place r a b → (u ≡ a) × (v ≡ b)
  place_same u v a b p q e = same_pair n u v a b (host_below r v p.1) (host_below r b q.1) e

  -- what lies before in the order has the lesser place
  pub place_earlier : (a b u v : ℕ) → PairOf r a b → (a < u) ⊎ ((a ≡ u) × (b < v)) → pair_place r a b < pair_place r u v
  place_earlier a b u v p h =
      ⊎_elim
      (λ (l : a < u). let m = mul-add-lt a n b u l (host_below r b p.1) in omega (arith, mul_comm a n, mul_comm u n))
      (λ (e : (a ≡ u) × (b < v)). let same = ap (λ x. n * x) e.0 in omega (arith, e.1))
      h

  -- in the row of sender u, the places before k are those of the receivers below k - n u
  pub row_before : (k u v m s first : ℕ) → m ≡ n → s ≡ u → first ≡ k - m * s → v < first → pair_place r u v < k
  row_before k u v m s first em es ef l = let row : m * s ≡ n * u = rw (em, es) refl in omega (arith, row)

  pub row_behind : (k u v m s first : ℕ) → m ≡ n → s ≡ u → first ≡ k - m * s → first ≤ v → k ≤ pair_place r u v
  row_behind k u v m s first em es ef l = let row : m * s ≡ n * u = rw (em, es) refl in omega (arith, row)

  -- the pairs of the senders below u are before place k
  abbrev pub AllBefore : ℕ → ℕ → Type 0
  AllBefore k u = (x v : ℕ) → x < u → PairOf r x v → pair_place r x v < k

  -- of the senders below the one in whose row place k is; of one more, of which none is left; of all
  pub before_row : (k m u : ℕ) → m ≡ n → u ≡ k / m → AllBefore k u
  before_row k m u em eu x v l p =
      let same : k / m ≡ k / n = ap (λ d. k / d) em in
      let low = mul-add-lt x n v (k / n) (omega arith) (host_below r v p.1) in
      omega (arith, mul_comm x n, mul_comm (k / n) n)

  pub before_more : (k u : ℕ) → AllBefore k u → NextOf r u k None → AllBefore k (u + 1)
  before_more k u before none x v l p =
      ⊎_elim
      (λ (e : x ≡ u). subst (λ y. pair_place r y v < k) (sym e) (none v (subst (λ y. PairOf r y v) e p)))
      (λ (other : x ≡ u → ⊥). before x v (omega arith) p)
      (cases_eq x u)

  pub before_all : (k u : ℕ) → n ≤ u → AllBefore k u → NextPair r k None
  before_all k u all before x v p = let low = host_below r x p.0 in before x v (omega arith) p

  -- the first pair of the first sender that has one left is the first
  pub first_left : (k u : ℕ) (p : Pair) → AllBefore k u → NextOf r u k (Some p) → NextPair r k (Some p)
  first_left k u p before found =
      let is = found.0 in (
        subst (λ x. PairOf r x p.receiver.0) (sym is) found.1,
        subst (λ x. k ≤ pair_place r x p.receiver.0) (sym is) found.2,
        λ x v q l.
            subst (λ y. pair_place r y p.receiver.0 ≤ pair_place r x v) (sym is)
            (⊎_elim
            (λ (less : x < u). let low = before x v less q in absurd (omega arith))
            (λ (h : u ≤ x).
            ⊎_elim
            (λ (e : x ≡ u).
            let w = found.3 v (subst (λ y. PairOf r y v) e q) (subst (λ y. k ≤ pair_place r y v) e l) in
            subst (λ y. pair_place r u p.receiver.0 ≤ pair_place r y v) (sym e) (omega arith))
            (λ (more : x ≡ u → ⊥). let low = place_earlier u p.receiver.0 x v found.1 (inl (omega arith)) in omega arith)
            (cases_eq x u))
            (cases_lt x u)),
      )

  -- what holds when the senders below u were taken, and of u the receivers below v: after a whole row begins the next, and what is no pair can be passed
  module _ (P : ℕ → ℕ → Type 0) (row : (u : ℕ) → P u n → P (suc u) 0) (skip : (u v : ℕ) → (PairOf r u v → ⊥) → P u v → P u (suc v)) where
    -- it holds at place k
    abbrev pub Taken : ℕ → Type 0
    Taken k = (u v : ℕ) × (u ≤ n) × (v ≤ n) × (k ≤ n * n) × (pair_place r u v ≡ k) × P u v

    -- the same pair of numbers or the next row's beginning, with a receiver below the count
    turned : (u v : ℕ) → 0 < n → v ≤ n → P u v → (a : ℕ) × (b : ℕ) × (b < n) × (pair_place r a b ≡ pair_place r u v) × P a b
    turned u v some le p =
        ⊎_elim
        (λ (l : v < n). (u, v, l, refl, p))
        (λ (g : n ≤ v).
        let e : v ≡ n = omega arith in
        (suc u, 0, some, omega (arith, mul-suc n u), row u (subst (P u) e p)))
        (cases_lt v n)

    -- from u, v on, d places farther, if no pair is passed
    walk :
        (a b : ℕ) → b < n → (d u v : ℕ) → v ≤ n → pair_place r u v + d ≡ pair_place r a b → ((x y : ℕ) → PairOf r x y → pair_place r u v ≤ pair_place r x y → pair_place r x y < pair_place r a b → ⊥) → P u v → P a b
    walk a b low zero u v le e none p =
        let t = turned u v (omega arith) le p in
        let same = same_pair n t.0 t.1 a b t.2 low (t.3 ∙ omega arith) in
        subst (λ x. P x b) same.0 (subst (P t.0) same.1 t.4)
    walk a b low (suc d) u v le e none p =
        let t = turned u v (omega arith) le p in
        let here : pair_place r t.0 t.1 ≡ pair_place r u v = t.3 in
        walk a b low d t.0 (suc t.1) (omega (arith, t.2)) (omega arith)
        (λ x y q l h. none x y q (omega arith) h)
        (skip t.0 t.1 (λ q. none t.0 t.1 q (omega arith) (omega arith)) t.4)

    -- the search found a pair: it holds when all before were taken
    pub taken_next : (k : ℕ) (p : Pair) → NextPair r k (Some p) → Taken k → P p.sender.0 p.receiver.0
    taken_next k p found t =
        let u = p.sender.0 in
        let v = p.receiver.0 in
        let at : pair_place r t.0 t.1 ≡ k = t.5 in
        let d : (d : ℕ) × (pair_place r t.0 t.1 + d ≡ pair_place r u v) = (pair_place r u v - pair_place r t.0 t.1, omega (arith, found.1)) in
        walk u v (host_below r v found.0.1) d.0 t.0 t.1 t.3 d.1
        (λ x y q l h. let low = found.2 x y q (omega arith) in omega arith)
        t.6

    -- it holds at the place behind a pair that was taken
    pub taken_more : (u v : ℕ) → PairOf r u v → P u (suc v) → Taken (pair_place r u v + 1)
    taken_more u v p h = (u, suc v, omega (arith, host_below r u p.0), omega (arith, host_below r v p.1), omega (arith, place_below u v p), omega arith, h)

    pub taken_start : P 0 0 → Taken 0
    taken_start h = (0, 0, omega arith, omega arith, omega arith, omega arith, h)

    -- there is no further pair: it holds when all are taken
    pub taken_end : (k : ℕ) → NextPair r k None → Taken k → P n 0
    taken_end k none t =
        ⊎_elim
        (λ (some : 0 < n).
        let d : (d : ℕ) × (pair_place r t.0 t.1 + d ≡ pair_place r n 0) = (pair_place r n 0 - pair_place r t.0 t.1, omega (arith, t.4, t.5)) in
        walk n 0 some d.0 t.0 t.1 t.3 d.1 (λ x y q l h. let low = none x y q in omega (arith, t.5)) t.6)
        (λ (no : n ≤ 0).
        let eu : t.0 ≡ n = omega (arith, t.2) in
        let ev : t.1 ≡ 0 = omega (arith, t.3) in
        subst (λ x. P x 0) eu (subst (P t.0) ev t.6))
        (cases_lt 0 n)
