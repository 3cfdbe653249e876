-- The walk back along forerunners, and the ring that it closes.
use Rattle.std.proofs.Common.{◌≡◌, ℕ, ◌+◌, ◌-◌, ◌<◌, ◌≤◌, true, eqb, ◌≢◌, List, length, get_or, set, sym, ap, ◌∙◌, subst, arith, get_or-set_other, get_or-set_same, eq-eqb, ne_eqb, eqb-true}
use native.Mathlib.Decide.{ℕ_discrete}
use Rattle.ranking.specs.Graphs.{IsRing, SameFrom, Ringed}
use Rattle.ranking.specs.Workings.{Stuck, Closed, Gathered}
use Rattle.ranking.proofs.Counts.{count_less, count_le, alike}

-- the points visited so far stand in t above top and below mark, in the order of the visit, and each is followed by the one before it
record Walk (f : ℕ → ℕ → Type 0) (n top mark : ℕ) (t : List ℕ) : Type 0 where
  low : (z : ℕ) → z < n → get_or t z 0 < mark
  apart : (y z : ℕ) → y < n → z < n → top < get_or t y 0 → get_or t y 0 ≡ get_or t z 0 → y ≡ z
  links : (y z : ℕ) → y < n → z < n → top < get_or t z 0 → get_or t y 0 ≡ get_or t z 0 + 1 → f y z
  onto : (m : ℕ) → top < m → m < mark → (z : ℕ) × (z < n) × (get_or t z 0 ≡ m)
  fed : (y : ℕ) → y < n → top ≤ get_or t y 0 → (x : ℕ) × (x < n) × (top ≤ get_or t x 0) × f x y

-- as the walk comes to y
pub record Walking (f : ℕ → ℕ → Type 0) (n top mark y : ℕ) (t : List ℕ) : Type 0 where
  walk : Walk f n top mark t
  pub inside : y < n
  fresh : get_or t y 0 ≡ top
  next : (z : ℕ) → z < n → top < get_or t z 0 → get_or t z 0 + 1 ≡ mark → f y z
  pub above : top < mark
  pub small : top ≤ n
  pub room : mark + alike top n t ≤ top + 1 + n

-- u is t with v at y
record Put (y v : ℕ) (t u : List ℕ) : Type 0 where
  here : get_or u y 0 ≡ v
  there : (z : ℕ) → z ≢ y → get_or u z 0 ≡ get_or t z 0

put_set : (y v : ℕ) (t : List ℕ) → y < length t → Put y v t (set t y v)
put_set y v t l = record { here = get_or-set_same t y v 0 l; there = λ z ne. get_or-set_other t y z v 0 ne }

module _ (f : ℕ → ℕ → Type 0) (n top : ℕ) where
  pub walking_start : (first : ℕ) (t : List ℕ) → first < n → get_or t first 0 ≡ top → Stuck f n top t → Walking f n top (top + 1) first t
  unfolding alike
  walking_start first t inside there k =
      record {
        walk = record {
          low = λ z l. omega (arith, k.low z l);
          apart = λ y z yl zl h. absurd (omega (arith, k.low y yl));
          links = λ y z yl zl h. absurd (omega (arith, k.low z zl));
          onto = λ m a b. absurd (omega arith);
          fed = λ y l h. k.fed y l (omega (arith, k.low y l));
        };
        inside = inside;
        fresh = there;
        next = λ z l h. absurd (omega (arith, k.low z l));
        above = omega arith;
        small = k.small;
        room = omega (arith, count_le (λ i. eqb (get_or t i 0) top) n);
      }

  module _ (mark y : ℕ) (t : List ℕ) (k : Walking f n top mark y t) where
    walk_put : (u : List ℕ) → Put y mark t u → Walk f n top (mark + 1) u
    walk_put u p =
        record {
          low = λ z l. low z l (ℕ_discrete z y);
          apart = λ a b al bl h e. apart a b al bl h e (ℕ_discrete a y) (ℕ_discrete b y);
          links = λ a b al bl h e. links a b al bl h e (ℕ_discrete a y) (ℕ_discrete b y);
          onto = λ m a b. onto m a b (ℕ_discrete m mark);
          fed = λ z l h. let q = k.walk.fed z l (old z h (ℕ_discrete z y)) in (q.0, q.1, more q.0 q.2 (ℕ_discrete q.0 y), q.3);
        }
      where
        at : (z : ℕ) → z ≡ y → get_or u z 0 ≡ mark
        at z e = ap (λ i. get_or u i 0) e ∙ p.here

        was : (z : ℕ) → z ≡ y → get_or t z 0 ≡ top
        was z e = ap (λ i. get_or t i 0) e ∙ k.fresh

        low : (z : ℕ) → z < n → Dec (z ≡ y) → get_or u z 0 < mark + 1
        low z l (yes e) = omega (arith, at z e)
        low z l (no ne) = omega (arith, p.there z ne, k.walk.low z l)

        old : (z : ℕ) → top ≤ get_or u z 0 → Dec (z ≡ y) → top ≤ get_or t z 0
        old z h (yes e) = omega (arith, was z e)
        old z h (no ne) = omega (arith, p.there z ne)

        more : (z : ℕ) → top ≤ get_or t z 0 → Dec (z ≡ y) → top ≤ get_or u z 0
        more z h (yes e) = omega (arith, at z e, k.above)
        more z h (no ne) = omega (arith, p.there z ne)

        apart : (a b : ℕ) → a < n → b < n → top < get_or u a 0 → get_or u a 0 ≡ get_or u b 0 → Dec (a ≡ y) → Dec (b ≡ y) → a ≡ b
        apart a b al bl h e (yes ea) (yes eb) = ea ∙ sym eb
        apart a b al bl h e (yes ea) (no eb) = absurd (omega (arith, at a ea, p.there b eb, k.walk.low b bl))
        apart a b al bl h e (no ea) (yes eb) = absurd (omega (arith, at b eb, p.there a ea, k.walk.low a al))
        apart a b al bl h e (no ea) (no eb) = k.walk.apart a b al bl (omega (arith, p.there a ea)) (omega (arith, p.there a ea, p.there b eb))

        links : (a b : ℕ) → a < n → b < n → top < get_or u b 0 → get_or u a 0 ≡ get_or u b 0 + 1 → Dec (a ≡ y) → Dec (b ≡ y) → f a b
        links a b al bl h e (yes ea) (yes eb) = absurd (omega (arith, at a ea, at b eb))
        links a b al bl h e (yes ea) (no eb) = subst (λ i. f i b) (sym ea) (k.next b bl (omega (arith, p.there b eb)) (omega (arith, at a ea, p.there b eb)))
        links a b al bl h e (no ea) (yes eb) = absurd (omega (arith, at b eb, p.there a ea, k.walk.low a al))
        links a b al bl h e (no ea) (no eb) = k.walk.links a b al bl (omega (arith, p.there b eb)) (omega (arith, p.there a ea, p.there b eb))

        onto : (m : ℕ) → top < m → m < mark + 1 → Dec (m ≡ mark) → (z : ℕ) × (z < n) × (get_or u z 0 ≡ m)
        onto m a b (yes e) = (y, k.inside, p.here ∙ sym e)
        onto m a b (no ne) =
            let q = k.walk.onto m a (omega arith) in
            let other : q.0 ≢ y = λ e. (let w : get_or t q.0 0 ≡ top = was q.0 e in let v : get_or t q.0 0 ≡ m = q.2 in omega arith) in
            (q.0, q.1, p.there q.0 other ∙ q.2)

    module _ (room : n ≤ length t) where
      put : Put y mark t (set t y mark)
      put = put_set y mark t (omega (arith, k.inside))

      -- one fewer is left to visit
      pub fewer_left : alike top n (set t y mark) < alike top n t
      unfolding alike
      fewer_left =
          count_less (λ i. eqb (get_or t i 0) top) (λ i. eqb (get_or (set t y mark) i 0) top) n y k.inside
          (λ i il h. go i (eqb-true (get_or (set t y mark) i 0) top h) (ℕ_discrete i y))
          (eq-eqb (get_or t y 0) top k.fresh)
          (ne_eqb (get_or (set t y mark) y 0) top (λ e. omega (arith, put.here, k.above)))
        where
          go : (i : ℕ) → get_or (set t y mark) i 0 ≡ top → Dec (i ≡ y) → eqb (get_or t i 0) top ≡ true
          go i e (yes q) = eq-eqb (get_or t i 0) top (ap (λ j. get_or t j 0) q ∙ k.fresh)
          go i e (no q) = eq-eqb (get_or t i 0) top (sym (get_or-set_other t y i mark 0 q) ∙ e)

      -- the point that is marked has a forerunner that is left or marked
      pub walk_feeds : (x : ℕ) × (x < n) × (top ≤ get_or (set t y mark) x 0) × f x y
      walk_feeds = (walk_put (set t y mark) put).fed y k.inside (omega (arith, put.here, k.above))

      -- the walk goes on to a forerunner x that is not marked
      pub walking_on : (x : ℕ) → x < n → get_or (set t y mark) x 0 ≡ top → f x y → Walking f n top (mark + 1) x (set t y mark)
      walking_on x xl e h =
          let u = set t y mark in
          let w = walk_put u put in
          record {
            walk = w;
            inside = xl;
            fresh = e;
            next = λ z zl a b. let same : z ≡ y = w.apart z y zl k.inside a (omega (arith, put.here)) in subst (λ i. f x i) (sym same) h;
            above = omega (arith, k.above);
            small = k.small;
            room = omega (arith, k.room, fewer_left);
          }

      -- the walk comes to a forerunner x that is marked
      pub walk_closed : (x : ℕ) → x < n → top < get_or (set t y mark) x 0 → f x y → Closed f n (get_or (set t y mark) x 0) mark (set t y mark)
      walk_closed x xl a h =
          let u = set t y mark in
          let w = walk_put u put in
          record {
            marked = record {
              some = omega (arith, w.low x xl);
              short = omega (arith, k.room, fewer_left);
              low = λ z zl. omega (arith, w.low z zl);
              apart = λ i j il jl b e. w.apart i j il jl (omega arith) e;
              onto = λ m b e. w.onto m (omega arith) (omega arith);
            };
            links = λ i j il jl b e. w.links i j il jl (omega arith) e;
            closes = λ i j il jl e o.
                let same_i : x ≡ i = w.apart x i xl il a (sym e) in
                let same_j : y ≡ j = w.apart y j k.inside jl (omega (arith, put.here, k.above)) (put.here ∙ sym o) in
                subst (λ z. f i z) same_j (subst (λ z. f z y) same_i h);
          }

module _ (f : ℕ → ℕ → Type 0) (n lo hi : ℕ) (t : List ℕ) (k : Closed f n lo hi t) where
  -- points that stand at hi, hi - 1, .., lo are a ring
  marked_ring : (at : ℕ → ℕ) → ((i : ℕ) → i < hi + 1 - lo → (at i < n) × (get_or t (at i) 0 ≡ hi - i)) → IsRing f at (hi + 1 - lo)
  marked_ring at marked =
      record {
        some = omega (arith, k.marked.some);
        steps = λ i l.
            let a = marked i (omega arith) in
            let b = marked (i + 1) l in
            k.links (at i) (at (i + 1)) a.0 b.0 (omega arith) (omega arith);
        closes =
            let s = k.marked.some in
            let a = marked (hi + 1 - lo - 1) (omega arith) in
            let b = marked 0 (omega arith) in
            k.closes (at (hi + 1 - lo - 1)) (at 0) a.0 b.0 (omega arith) (omega arith);
        apart = λ i j il jl e.
            let a = marked i il in
            let b = marked j jl in
            let c = ap (λ z. get_or t z 0) e in
            omega arith;
      }

  gathered_ring : (u v : List ℕ) → Gathered n lo hi t u v → IsRing f (λ i. get_or v i 0) (hi + 1 - lo)
  gathered_ring u v o = marked_ring (λ i. get_or v i 0) marked
    where
      marked : (i : ℕ) → i < hi + 1 - lo → (get_or v i 0 < n) × (get_or t (get_or v i 0) 0 ≡ hi - i)
      marked i l =
          let q = k.marked.onto (hi - i) (omega arith) (omega arith) in
          let z = q.0 in
          let e : get_or t z 0 ≡ hi - i = q.2 in
          let here : get_or v (hi - get_or t z 0) 0 ≡ z = o.put z q.1 (omega arith) in
          let same : hi - get_or t z 0 ≡ i = omega arith in
          let here' : get_or v i 0 ≡ z = ap (λ j. get_or v j 0) (sym same) ∙ here in
          (omega (arith, q.1), ap (λ j. get_or t j 0) here' ∙ e)

  -- the ring is written, and the marks are cleared
  pub ringed : (len : ℕ) (s u v w : List ℕ) → Gathered n lo hi t u v → ((y : ℕ) → y < n → get_or w y 0 ≡ 0) → SameFrom n s w → len ≡ hi - lo + 1 → Ringed f n len s w u v
  ringed len s u v w o zeros past e =
      let same : hi + 1 - lo ≡ len = omega (arith, k.marked.some) in
      record {
        ring = subst (λ l. IsRing f (λ i. get_or v i 0) l) same (gathered_ring u v o);
        short = omega (arith, k.marked.some, k.marked.short);
        ring_rest = subst (λ l. SameFrom l u v) same o.rest;
        zeros = zeros;
        rest = past;
      }
