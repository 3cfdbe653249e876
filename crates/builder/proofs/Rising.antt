-- What a pair was given stays as the other pairs are taken. Assumes nothing.
use Rattle.std.proofs.Common.{◌≡◌, ℕ, zero, suc, ◌+◌, ◌-◌, ◌*◌, ◌/◌, ◌%◌, ◌<◌, ◌≤◌, min, leb, ◌⊎◌, List, length, get_or, take, Option, sym, refl, ap, ◌∙◌, subst, inl, inr, ⊎_elim, mul_comm, arith, length-set, get_or-set_other, get_or-set_same, le-leb}
use Rattle.std.proofs.lemmas.Nat.{mul-add-lt, div-mul-add, mod-mul-add}
use Rattle.std.proofs.lemmas.List.{get_or-take, length-take-le}
use Rattle.std.proofs.lemmas.Bool.{cases_eq, cases_lt, cond-true}
use Rattle.rack.specs.declared.rack.Rack.{Rack}
use Rattle.rack.specs.Racks.{node_count, channel_count, tail_port}
use Rattle.rack.proofs.Facts.{host_below}
use Rattle.routing.specs.Turns.{turns, row_start, lane_bytes}
use Rattle.routing.specs.Paths.{PairOf}
use Rattle.builder.specs.Method.{PathOf, Middle, Passes, entry_of, entry_place, Tables, blank, PairBuilt, Taken, Receivers, Senders}
use Rattle.routing.specs.Plans.{OneToEight}
use Rattle.builder.specs.Outcomes.{LongEnough, needed}
use Rattle.builder.specs.Laws.{TurnsNumbered, LanesRise}
use Rattle.builder.proofs.Rows.{row_inside}
use Rattle.builder.proofs.Pathed.{passes, same_path}
use Rattle.builder.proofs.Taking.{blank_long, pair_on_way}

-- the entry of a middle turn, by its byte
pub entry_byte : (r : Rack) (lanes path : List ℕ) (s j : ℕ) → Passes r path → lane_bytes (channel_count r) ≤ length lanes → Middle path j → entry_of r lanes path s j ≡ min (get_or lanes (entry_place r path s j) 0) 7
entry_byte r lanes path s j pass long m =
    let turn = pass.turning j m in
    cond-true (turns r (get_or path j 0) (get_or path (j + 1) 0)) _ 0 turn
    ∙ cond-true (leb (row_start (get_or path j 0) (tail_port r (get_or path (j + 1) 0)) + 16) (length lanes)) (min (get_or lanes (entry_place r path s j) 0) 7) 0 (le-leb _ _ (row_inside r lanes (get_or path j 0) (get_or path (j + 1) 0) turn long))

-- whether a place is among those of the turns below n
among : (place : ℕ → ℕ) (k n : ℕ) → ((i : ℕ) × (1 ≤ i) × (i < n) × (k ≡ place i)) ⊎ ((i : ℕ) → 1 ≤ i → i < n → k ≡ place i → ⊥)
among place k zero = inr (λ i a b. absurd (omega arith))
among place k (suc n) =
    ⊎_elim
    (λ (f : (i : ℕ) × (1 ≤ i) × (i < n) × (k ≡ place i)). inl (f.0, f.1, omega (arith, f.2), f.3))
    (λ (f : (i : ℕ) → 1 ≤ i → i < n → k ≡ place i → ⊥).
    ⊎_elim
    (λ (e : (1 ≤ n) × (k ≡ place n)). inl (n, e.0, omega arith, e.1))
    (λ (ne : (1 ≤ n) × (k ≡ place n) → ⊥).
    inr (λ i a b e. ⊎_elim (λ (q : i ≡ n). ne (omega arith, e ∙ ap place q)) (λ (q : i ≡ n → ⊥). f i a (omega arith) e) (cases_eq i n)))
    (⊎_elim
    (λ (a : 1 ≤ n). ⊎_elim (λ (e : k ≡ place n). inl (a, e)) (λ (e : k ≡ place n → ⊥). inr (λ h. e h.1)) (cases_eq k (place n)))
    (λ (a : n < 1). inr (λ h. omega (arith, h.0)))
    (⊎_elim (λ (l : n < 1). inr l) (λ (l : 1 ≤ n). inl l) (cases_lt n 1))))
    (among place k n)

pub at_middle : (r : Rack) (path : List ℕ) (s k : ℕ) → ((i : ℕ) × Middle path i × (k ≡ entry_place r path s i)) ⊎ ((i : ℕ) → Middle path i → k ≡ entry_place r path s i → ⊥)
at_middle r path s k =
    ⊎_elim
    (λ (f : (i : ℕ) × (1 ≤ i) × (i < length path - 2) × (k ≡ entry_place r path s i)). inl (f.0, (f.1, omega (arith, f.2)), f.3))
    (λ (f : (i : ℕ) → 1 ≤ i → i < length path - 2 → k ≡ entry_place r path s i → ⊥). inr (λ i m. f i m.0 (omega (arith, m.1))))
    (among (entry_place r path s) k (length path - 2))

-- two pairs have two places
places_differ : (n u v a b : ℕ) → v < n → b < n → n * u + v ≡ n * a + b → (u ≡ a) × (v ≡ b)
places_differ n u v a b l m e =
    let x : u * n + v ≡ n * u + v = omega (arith, mul_comm u n) in
    let y : a * n + b ≡ n * a + b = omega (arith, mul_comm a n) in
    let same : u * n + v ≡ a * n + b = x ∙ e ∙ sym y in
    (sym (div-mul-add u n v l) ∙ ap (λ k. k / n) same ∙ div-mul-add a n b m, sym (mod-mul-add u n v l) ∙ ap (λ k. k % n) same ∙ mod-mul-add a n b m)

module _ (r : Rack) (route : ℕ → ℕ → Option ℕ) (count : ℕ) where
  -- one pair more: the tables stay long enough
  long_pair : (u v : ℕ) (was now : Tables) → LongEnough r was → PairBuilt r route count u v was now → LongEnough r now
  long_pair u v was now long b =
      (omega (arith, long.0, b.placed.claimed.long), omega (arith, long.1, ap length b.placed.told ∙ length-set was.levels (node_count r * u + v) b.level))

  long_taken : (u v : ℕ) (was now : Tables) → LongEnough r was → Taken r route count u v was now → LongEnough r now
  long_taken u v was now long t =
      ⊎_elim
      (λ (h : PairOf r u v × PairBuilt r route count u v was now). long_pair u v was now long h.1)
      (λ (h : (PairOf r u v → ⊥) × (now ≡ was)). subst (LongEnough r) (sym h.1) long)
      t

  pub long_receivers : (u n : ℕ) (was now : Tables) → LongEnough r was → Receivers r route count u n was now → LongEnough r now
  long_receivers u zero was now long t = subst (LongEnough r) (sym t) long
  long_receivers u (suc n) was now long t = long_taken u n t.0 now (long_receivers u n was t.0 long t.1) t.2

  pub long_senders : (n : ℕ) (was now : Tables) → LongEnough r was → Senders r route count n was now → LongEnough r now
  long_senders zero was now long t = subst (LongEnough r) (sym t) long
  long_senders (suc n) was now long t = long_receivers n (node_count r) t.0 now (long_senders n was t.0 long t.1) t.2

module _ (r : Rack) (route : ℕ → ℕ → Option ℕ) (count : ℕ) (range : OneToEight count) where
  -- the level of the pair u, v is at its place, and its middle turns have their lanes there
  pub record Given (u v : ℕ) (path : List ℕ) (t : Tables) : Type 0 where
    pub short : length path ≤ 10
    pub level : get_or t.levels (node_count r * u + v) 0 < 16
    pub lanes : (j : ℕ) → Middle path j → get_or t.lanes (entry_place r path (get_or t.levels (node_count r * u + v) 0) j) 0 ≡ j

  -- one pair: what is not 0 stays
  pub stays : (u v : ℕ) (was now : Tables) → PairOf r u v → LongEnough r was → PairBuilt r route count u v was now → (k j : ℕ) → 1 ≤ j → j ≤ 7 → get_or was.lanes k 0 ≡ j → get_or now.lanes k 0 ≡ j
  stays u v was now pair long b k j some low is =
      let path = b.path in
      let s = b.level in
      let pass = passes r route u v pair path b.walked in
      ⊎_elim
      (λ (f : (i : ℕ) × Middle path i × (k ≡ entry_place r path s i)).
      let i = f.0 in
      let byte : get_or was.lanes (entry_place r path s i) 0 ≡ j = ap (λ n. get_or was.lanes n 0) (sym f.2) ∙ is in
      let entry : entry_of r was.lanes path s i ≡ j = entry_byte r was.lanes path s i pass long.0 f.1 ∙ ap (λ n. min n 7) byte ∙ omega arith in
      let own : i ≡ j = ⊎_elim (λ (z : entry_of r was.lanes path s i ≡ 0). absurd (omega (arith, sym entry ∙ z))) (λ (z : entry_of r was.lanes path s i ≡ i). sym z ∙ entry) (b.placed.lowest.fits i f.1) in
      ap (λ n. get_or now.lanes n 0) f.2 ∙ b.placed.claimed.given i f.1 ∙ own)
      (λ (f : (i : ℕ) → Middle path i → k ≡ entry_place r path s i → ⊥). b.placed.claimed.kept k f ∙ is)
      (at_middle r path s k)

  module _ (u v : ℕ) (pair : PairOf r u v) (path : List ℕ) (is : PathOf r route u v path) where
    -- what the pair itself is given
    pub given_here : (was now : Tables) → LongEnough r was → PairBuilt r route count u v was now → Given u v path now
    given_here was now long b =
        let same : b.path ≡ path = same_path r route u v pair b.path path b.walked is in
        let at = node_count r * u + v in
        let inside : at < length was.levels = omega (arith, mul-add-lt u (node_count r) v (node_count r) (host_below r u pair.0) (host_below r v pair.1), mul_comm u (node_count r), long.1) in
        let level : get_or now.levels at 0 ≡ b.level = ap (λ xs. get_or xs at 0) b.placed.told ∙ get_or-set_same was.levels at b.level 0 inside in
        let lanes : (j : ℕ) → Middle path j → get_or now.lanes (entry_place r path b.level j) 0 ≡ j = subst (λ p. (j : ℕ) → Middle p j → get_or now.lanes (entry_place r p b.level j) 0 ≡ j) same b.placed.claimed.given in
        record {
          short = omega (arith, ap length same, b.short, range.1);
          level = omega (arith, level, b.placed.lowest.level);
          lanes = λ j m. ap (λ s. get_or now.lanes (entry_place r path s j) 0) level ∙ lanes j m;
        }

    -- another pair leaves it
    given_pair : (a b : ℕ) (was now : Tables) → PairOf r a b → ((u ≡ a) × (v ≡ b) → ⊥) → LongEnough r was → PairBuilt r route count a b was now → Given u v path was → Given u v path now
    given_pair a b was now other ne long built h =
        let at = node_count r * u + v in
        let apart : at ≡ node_count r * a + b → ⊥ = λ e. ne (places_differ (node_count r) u v a b (host_below r v pair.1) (host_below r b other.1) e) in
        let level : get_or now.levels at 0 ≡ get_or was.levels at 0 = ap (λ xs. get_or xs at 0) built.placed.told ∙ get_or-set_other was.levels (node_count r * a + b) at built.level 0 apart in
        record {
          short = h.short;
          level = omega (arith, level, h.level);
          lanes = λ j m. ap (λ s. get_or now.lanes (entry_place r path s j) 0) level ∙ stays a b was now other long built _ j m.0 (omega (arith, m.1, h.short)) (h.lanes j m);
        }

    given_taken : (a b : ℕ) (was now : Tables) → ((u ≡ a) × (v ≡ b) → ⊥) → LongEnough r was → Taken r route count a b was now → Given u v path was → Given u v path now
    given_taken a b was now ne long t h =
        ⊎_elim
        (λ (x : PairOf r a b × PairBuilt r route count a b was now). given_pair a b was now x.0 ne long x.1 h)
        (λ (x : (PairOf r a b → ⊥) × (now ≡ was)). subst (Given u v path) (sym x.1) h)
        t

    -- the pairs of another sender leave it
    given_later : (a n : ℕ) (was now : Tables) → (u ≡ a → ⊥) → LongEnough r was → Receivers r route count a n was now → Given u v path was → Given u v path now
    given_later a zero was now ne long t h = subst (Given u v path) (sym t) h
    given_later a (suc n) was now ne long t h =
        given_taken a n t.0 now (λ e. ne e.0) (long_receivers r route count a n was t.0 long t.1) t.2 (given_later a n was t.0 ne long t.1 h)

    given_row : (n : ℕ) (was now : Tables) → v < n → LongEnough r was → Receivers r route count u n was now → Given u v path now
    given_row zero was now l long t = absurd (omega arith)
    given_row (suc n) was now l long t =
        let mid = long_receivers r route count u n was t.0 long t.1 in
        ⊎_elim
        (λ (e : v ≡ n).
        ⊎_elim
        (λ (x : PairOf r u n × PairBuilt r route count u n t.0 now). given_here t.0 now mid (subst (λ b. PairBuilt r route count u b t.0 now) (sym e) x.1))
        (λ (x : (PairOf r u n → ⊥) × (now ≡ t.0)). absurd (x.0 (subst (PairOf r u) e pair)))
        t.2)
        (λ (ne : v ≡ n → ⊥). given_taken u n t.0 now (λ q. ne q.1) mid t.2 (given_row n was t.0 (omega arith) long t.1))
        (cases_eq v n)

    pub given_all : (n : ℕ) (was now : Tables) → u < n → LongEnough r was → Senders r route count n was now → Given u v path now
    given_all zero was now l long t = absurd (omega arith)
    given_all (suc n) was now l long t =
        let mid = long_senders r route count n was t.0 long t.1 in
        ⊎_elim
        (λ (e : u ≡ n). given_row (node_count r) t.0 now (host_below r v pair.1) mid (subst (λ a. Receivers r route count a (node_count r) t.0 now) (sym e) t.2))
        (λ (ne : u ≡ n → ⊥). given_later n (node_count r) t.0 now ne mid t.2 (given_all n was t.0 (omega arith) long t.1))
        (cases_eq u n)

pub lanes_rise : LanesRise
lanes_rise r route count now range built =
    let long = blank_long r (blank r) refl in
    let long' = long_senders r route count (node_count r) (blank r) now long built in
    let given : (u v : ℕ) (path : List ℕ) → PairOf r u v → PathOf r route u v path → Given r route count range u v path now =
    λ u v path pair is. given_all r route count range u v pair path is (node_count r) (blank r) now (host_below r u pair.0) long built in
    record {
      paths = λ u v pair. let b = (pair_on_way r route count u v (blank r) now pair built).1.1 in (b.path, b.walked, b.short);
      levels = λ u v pair. let b = (pair_on_way r route count u v (blank r) now pair built).1.1 in (given u v b.path pair b.walked).level;
      lanes = λ u v path pair is j m.
          let h = given u v path pair is in
          let low : j ≤ 7 = omega (arith, m.1, h.short) in
          entry_byte r now.lanes path (get_or now.levels (node_count r * u + v) 0) j (passes r route u v pair path is) long'.0 m ∙ ap (λ n. min n 7) (h.lanes j m) ∙ omega arith;
    }

-- further places do not matter
pub rises_beyond : (r : Rack) (route : ℕ → ℕ → Option ℕ) (count : ℕ) (now : Tables) → LongEnough r now → TurnsNumbered r route count (needed r now) → TurnsNumbered r route count now
rises_beyond r route count now long h =
    let L = lane_bytes (channel_count r) in
    let full : length (take L now.lanes) ≡ L = length-take-le L now.lanes long.0 in
    let level : (u v : ℕ) → PairOf r u v → get_or (take (node_count r * node_count r) now.levels) (node_count r * u + v) 0 ≡ get_or now.levels (node_count r * u + v) 0 =
    λ u v pair. get_or-take _ now.levels (node_count r * u + v) 0 (omega (arith, mul-add-lt u (node_count r) v (node_count r) (host_below r u pair.0) (host_below r v pair.1), mul_comm u (node_count r))) in
    let low : (u v : ℕ) → PairOf r u v → get_or now.levels (node_count r * u + v) 0 < 16 = λ u v pair. omega (arith, level u v pair, h.levels u v pair) in
    record {
      paths = h.paths;
      levels = low;
      lanes = λ u v path pair is j m.
          let s = get_or now.levels (node_count r * u + v) 0 in
          let pass = passes r route u v pair path is in
          let inside = row_inside r (take L now.lanes) (get_or path j 0) (get_or path (j + 1) 0) (pass.turning j m) (omega (arith, full)) in
          let byte : get_or (take L now.lanes) (entry_place r path s j) 0 ≡ get_or now.lanes (entry_place r path s j) 0 = get_or-take L now.lanes (entry_place r path s j) 0 (omega (arith, low u v pair)) in
          entry_byte r now.lanes path s j pass long.0 m
          ∙ ap (λ n. min n 7) (sym byte)
          ∙ sym (entry_byte r (take L now.lanes) path s j pass (omega (arith, full)) m)
          ∙ ap (λ n. entry_of r (take L now.lanes) path n j) (sym (level u v pair))
          ∙ h.lanes u v path pair is j m;
    }
