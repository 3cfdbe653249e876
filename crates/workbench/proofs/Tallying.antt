-- What paths use, one more at a time. Assumes nothing.
use Rattle.std.proofs.Common.{◌≡◌, ℕ, zero, suc, ◌+◌, ◌-◌, ◌<◌, ◌≤◌, ◌⊎◌, max, List, [], ◌∷◌, length, get_or, Some, None, Ok, Err, Result, IsErrAnd, MatchResult, sym, refl, ap, ◌∙◌, subst, inl, inr, ⊎_elim, arith}
use Rattle.std.proofs.lemmas.Bool.{cases_lt}
use Rattle.std.proofs.lemmas.List.{get_or_default}
use Rattle.std.proofs.lemmas.Option.{same_Some}
use Rattle.rack.specs.declared.rack.Rack.{Rack}
use Rattle.rack.specs.Racks.{node_count}
use Rattle.rack.proofs.Facts.{host_below}
use Rattle.routing.specs.declared.pair.Pair.{Pair}
use Rattle.routing.specs.declared.walk.Step.{Step}
use Rattle.routing.specs.declared.fault.WalkFault.{WalkFault}
use Rattle.routing.specs.declared.fault.WalkFault.TheVariants.{NoPair, Lane, Memory}
use Rattle.routing.specs.Paths.{Routing, Hop, PairOf}
use Rattle.routing.specs.Pairs.{pair_place, NextPair}
use Rattle.routing.specs.Walks.{hop_of, Walked, WalkStops}
use Rattle.routing.proofs.Hops.{hop_last, from_first}
use Rattle.routing.proofs.Rounds.{into_host}
use Rattle.routing.proofs.Determined.{stopped_undelivered}
use Rattle.routing.proofs.PairOrder.{Taken, taken_start, taken_next, taken_more, taken_end}
use Rattle.checking.specs.declared.fault.CheckFault.TheVariants.{Walk}
use Rattle.checking.specs.Plans.{level_at, On, FinePair, Earlier}
use Rattle.report.specs.declared.refusal.Refusal.{Refusal}
use Rattle.report.specs.declared.refusal.Refusal.TheVariants.{Check}
use Rattle.report.specs.Refusals.{told}
use Rattle.workbench.specs.declared.tally.Tally.{Tally}
use Rattle.workbench.specs.Tallies.{OneAbove, LaneOf, UsesLane, UsesLevel, HasHop, OfOne, Uses, Tallied, OneTallied, NoTally}

-- ---- one more than the greatest

one_none : (P : ℕ → Type 0) → ((k : ℕ) → P k → ⊥) → OneAbove P 0
one_none P none = (λ k p. absurd (none k p), λ k e. absurd (omega arith))

one_same : (P R : ℕ → Type 0) (n : ℕ) → ((k : ℕ) → R k → P k) → ((k : ℕ) → P k → R k) → OneAbove P n → OneAbove R n
one_same P R n back to a = (λ k r. a.0 k (back k r), λ k e. to k (a.1 k e))

one_either : (P Q R : ℕ → Type 0) (m n : ℕ) → ((k : ℕ) → R k → P k ⊎ Q k) → ((k : ℕ) → P k → R k) → ((k : ℕ) → Q k → R k) → OneAbove P m → OneAbove Q n → OneAbove R (max m n)
one_either P Q R m n back p q a b = (
  λ k r. ⊎_elim (λ (x : P k). let l = a.0 k x in omega arith) (λ (x : Q k). let l = b.0 k x in omega arith) (back k r),
  λ k e. ⊎_elim (λ (l : m < n). q k (b.1 k (omega arith))) (λ (l : n ≤ m). p k (a.1 k (omega arith))) (cases_lt m n),
)

-- ---- the lanes of a path

-- one of the first n steps is on lane k
abbrev pub LaneBefore : List Step → ℕ → ℕ → Type 0
LaneBefore path n k = (h : Step) × ((i : ℕ) × (i < n) × (get_or path i h ≡ h)) × (h.lane.number ≡ k)

pub lanes_start : (path : List Step) → OneAbove (LaneBefore path 0) 0
lanes_start path = one_none (LaneBefore path 0) (λ k p. let l = p.1.1 in omega arith)

pub lanes_more : (path : List Step) (n q : ℕ) (x : Step) → n < length path → x ≡ get_or path n x → OneAbove (LaneBefore path n) q → OneAbove (LaneBefore path (n + 1)) (max q (x.lane.number + 1))
lanes_more path n q x within at so_far =
    one_either (LaneBefore path n) (λ k. x.lane.number ≡ k) (LaneBefore path (n + 1)) q (x.lane.number + 1)
    (λ k p.
    ⊎_elim
    (λ (l : p.1.0 < n). inl (p.0, (p.1.0, l, p.1.2), p.2))
    (λ (l : n ≤ p.1.0).
    let e : p.1.0 ≡ n = let less = p.1.1 in omega arith in
    let same : x ≡ p.0 = at ∙ get_or_default path n x p.0 within ∙ ap (λ i. get_or path i p.0) (sym e) ∙ p.1.2 in
    inr (ap (λ (h : Step). h.lane.number) same ∙ p.2))
    (cases_lt p.1.0 n))
    (λ k p. (p.0, (p.1.0, let l = p.1.1 in omega arith, p.1.2), p.2))
    (λ k e. (x, (n, omega arith, sym at), e))
    so_far
    (λ k e. omega arith, λ k e. omega arith)

pub lanes_end : (path : List Step) (n q : ℕ) → n ≡ length path → OneAbove (LaneBefore path n) q → OneAbove (LaneOf path) q
lanes_end path n q all a = subst (λ m. OneAbove (LaneBefore path m) q) all a

-- ---- what the path of a pair uses

-- an element that a list has
element : (xs : List Step) (i : ℕ) → i < length xs → (x : Step) × (get_or xs i x ≡ x)
element [] i l = absurd (omega arith)
element (x ∷ xs) zero l = (x, refl)
element (x ∷ xs) (suc i) l = element xs i (omega arith)

module _ (g : Routing) (levels : List ℕ) (count : ℕ) (p : Pair) where
  abbrev u : ℕ
  u = p.sender.0

  abbrev v : ℕ
  v = p.receiver.0

  abbrev s : ℕ
  s = level_at g.rack levels u v

  module _ (path : List Step) (w : Walked g count p s path) where
    -- the path has no hop beyond the list
    within : (k : ℕ) (h : Hop) → On g levels u v k h → k < length path
    within k h on =
        ⊎_elim
        (λ (l : k < length path). l)
        (λ (l : length path ≤ k).
        let last = w.ends.0 in
        let c = on.0 in
        let at = from_first g u v s c (length path - 1) last w.pair.0 on.1 w.ends.1 in
        let sw = into_host g last.channel v w.pair.1 w.ends.3 in
        absurd (hop_last g v s c (length path - 1) k last h at sw (let some = w.some in omega arith) on.2))
        (cases_lt k (length path))

    hops : OneAbove (HasHop g levels u v) (length path)
    hops = (
      λ k h. within k h.0 h.1,
      λ k e. let at : length path - 1 ≡ k = omega arith in (w.ends.0, subst (λ i. On g levels u v i w.ends.0) at w.ends.1),
    )

    -- the hop is the step of the list
    step_at : (k : ℕ) (x : Step) → k < length path → get_or path k x ≡ x → On g levels u v k (hop_of x)
    step_at k x l e = subst (λ (y : Step). On g levels u v k (hop_of y)) e (w.lists k x l)

    same_lane : (k : ℕ) (h : Hop) (x : Step) → On g levels u v k h → On g levels u v k (hop_of x) → x.lane.number ≡ h.lane
    same_lane k h x on there =
        let same : hop_of x ≡ h = same_Some _ _ (sym (from_first g u v s on.0 k (hop_of x) w.pair.0 on.1 there) ∙ on.2) in
        ap (λ (y : Hop). y.lane) same

    lanes : (n : ℕ) → OneAbove (LaneOf path) n → OneAbove (UsesLane g levels u v) n
    lanes n a =
        one_same (LaneOf path) (UsesLane g levels u v) n
        (λ k h.
        let l = within h.0 h.1 h.2 in
        let x = element path h.0 l in
        (x.0, (h.0, l, x.1), same_lane h.0 h.1 x.0 h.2 (step_at h.0 x.0 l x.1) ∙ h.3))
        (λ k x. (x.1.0, hop_of x.0, step_at x.1.0 x.0 x.1.1 x.1.2, x.2))
        a

    level : OneAbove (UsesLevel g levels u v) (s + 1)
    level = (λ k e. omega arith, λ k e. omega arith)

  pub tallied_one :
      (level top lanes_used longest : ℕ) (path : List Step) → level ≡ s → top ≡ level → longest ≡ length path → Walked g count p level path → OneAbove (LaneOf path) lanes_used →
      OneTallied g levels u v (record { lanes = lanes_used; levels = top + 1; longest = longest })
  tallied_one l top n long path is same all walked a =
      let w = subst (λ m. Walked g count p m path) is walked in (
        lanes path w n a,
        subst (λ m. OneAbove (UsesLevel g levels u v) (m + 1)) (sym (same ∙ is)) (level path w),
        subst (OneAbove (HasHop g levels u v)) (sym all) (hops path w),
      )

  abbrev Unfine : WalkFault → Type 0
  Unfine f = (told (Check (Walk f)) ≡ None) ⊎ (PairOf g.rack u v → FinePair g levels count u v → ⊥)

  unwalked_of : (room : ℕ) (f : WalkFault) → WalkStops g count p s room f → Unfine f
  unwalked_of room (NoPair q) h = inr (λ pair fine. h.1 pair)
  unwalked_of room (Lane q k) h = inr (λ pair fine. let x = h.1 in omega (arith, fine.low k x.0 x.1, x.2))
  unwalked_of room Memory h = inl refl
  unwalked_of room f h = inr (λ pair fine. stopped_undelivered g count p s room f h tt fine.arrives)

  -- a walk that stops lacks memory, or the pair is not fine
  pub unwalked :
      {T : Type 0} (X : T → Type 0) (answer : Result T Refusal) (level room : ℕ) (f : WalkFault) → level ≡ s → WalkStops g count p level room f → IsErrAnd answer (λ x. x ≡ Check (Walk f)) →
      MatchResult answer X (λ x. (told x ≡ None) ⊎ (PairOf g.rack u v → FinePair g levels count u v → ⊥))
  unwalked X (Ok t) l room f is h e = absurd e
  unwalked X (Err x) l room f is h e =
      subst (λ y. (told y ≡ None) ⊎ (PairOf g.rack u v → FinePair g levels count u v → ⊥)) (sym e) (unwalked_of room f (subst (λ m. WalkStops g count p m room f) is h))

  -- nor is there a tally where there is none of a pair
  pub untallied :
      {T : Type 0} (X : T → Type 0) (answer : Result T Refusal) (f : Refusal) → PairOf g.rack u v → (told f ≡ None) ⊎ (PairOf g.rack u v → FinePair g levels count u v → ⊥) → IsErrAnd answer (λ x. x ≡ f) →
      MatchResult answer X (NoTally g levels count)
  untallied X (Ok t) f pair h e = absurd e
  untallied X (Err x) f pair h e =
      subst (NoTally g levels count) (sym e) (⊎_elim (λ (n : told f ≡ None). inl n) (λ (n : PairOf g.rack u v → FinePair g levels count u v → ⊥). inr (λ all. n pair (all u v pair))) h)

-- ---- what the paths of the pairs so far use

-- a pair that comes before u, v
abbrev pub Sooner : Rack → ℕ → ℕ → ℕ → ℕ → Type 0
Sooner r u v a b = PairOf r a b × Earlier a b u v

module _ (r : Rack) (P : ℕ → ℕ → ℕ → Type 0) where
  abbrev Before : ℕ → ℕ → ℕ → Type 0
  Before n u v = OneAbove (OfOne (Sooner r u v) P) n

  before_start : Before 0 0 0
  before_start = one_none (OfOne (Sooner r 0 0) P) (λ k x. ⊎_elim (λ (l : x.0 < 0). omega arith) (λ (e : (x.0 ≡ 0) × (x.1 < 0)). let l = e.1 in omega arith) x.2.1)

  -- where the same pairs come before both places
  before_same : (n u v a b : ℕ) → ((x y : ℕ) → PairOf r x y → Earlier x y a b → Earlier x y u v) → ((x y : ℕ) → Earlier x y u v → Earlier x y a b) → Before n u v → Before n a b
  before_same n u v a b back to h =
      one_same (OfOne (Sooner r u v) P) (OfOne (Sooner r a b) P) n (λ k x. (x.0, x.1, (x.2.0, back x.0 x.1 x.2.0 x.2.1), x.3)) (λ k x. (x.0, x.1, (x.2.0, to x.0 x.1 x.2.1), x.3)) h

  before_row : (n u : ℕ) → Before n u (node_count r) → Before n (suc u) 0
  before_row n u h =
      before_same n u (node_count r) (suc u) 0
      (λ x y pair e.
      ⊎_elim
      (λ (l : x < suc u).
      ⊎_elim
      (λ (m : x < u). inl m)
      (λ (m : u ≤ x). inr (omega arith, host_below r y pair.1))
      (cases_lt x u))
      (λ (l : (x ≡ suc u) × (y < 0)). absurd (let z = l.1 in omega arith))
      e)
      (λ x y e. inl (⊎_elim (λ (l : x < u). omega arith) (λ (l : (x ≡ u) × (y < node_count r)). let z = l.0 in omega arith) e))
      h

  -- what comes before the place behind u, v comes before it, or is u, v
  sooner_or : (u v x y : ℕ) → Earlier x y u (suc v) → Earlier x y u v ⊎ ((x ≡ u) × (y ≡ v))
  sooner_or u v x y e =
      ⊎_elim
      (λ (l : x < u). inl (inl l))
      (λ (l : (x ≡ u) × (y < suc v)). ⊎_elim (λ (m : y < v). inl (inr (l.0, m))) (λ (m : v ≤ y). inr (l.0, let z = l.1 in omega arith)) (cases_lt y v))
      e

  sooner_more : (u v x y : ℕ) → Earlier x y u v → Earlier x y u (suc v)
  sooner_more u v x y e = ⊎_elim (λ (l : x < u). inl l) (λ (l : (x ≡ u) × (y < v)). inr (l.0, let z = l.1 in omega arith)) e

  before_skip : (n u v : ℕ) → (PairOf r u v → ⊥) → Before n u v → Before n u (suc v)
  before_skip n u v none h =
      before_same n u v u (suc v)
      (λ x y pair e.
      ⊎_elim
      (λ (l : Earlier x y u v). l)
      (λ (l : (x ≡ u) × (y ≡ v)). absurd (none (subst (λ a. PairOf r a v) l.0 (subst (PairOf r x) l.1 pair))))
      (sooner_or u v x y e))
      (sooner_more u v)
      h

  before_one : (m n u v : ℕ) → PairOf r u v → Before m u v → OneAbove (P u v) n → Before (max m n) u (suc v)
  before_one m n u v pair h one =
      one_either (OfOne (Sooner r u v) P) (P u v) (OfOne (Sooner r u (suc v)) P) m n
      (λ k x.
      ⊎_elim
      (λ (l : Earlier x.0 x.1 u v). inl (x.0, x.1, (x.2.0, l), x.3))
      (λ (l : (x.0 ≡ u) × (x.1 ≡ v)). inr (subst (λ a. P a v k) l.0 (subst (λ b. P x.0 b k) l.1 x.3)))
      (sooner_or u v x.0 x.1 x.2.1))
      (λ k x. (x.0, x.1, (x.2.0, sooner_more u v x.0 x.1 x.2.1), x.3))
      (λ k x. (u, v, (pair, inr (refl, omega arith)), x))
      h
      one

  before_end : (n : ℕ) → Before n (node_count r) 0 → OneAbove (OfOne (PairOf r) P) n
  before_end n h =
      one_same (OfOne (Sooner r (node_count r) 0) P) (OfOne (PairOf r) P) n (λ k x. (x.0, x.1, (x.2, inl (host_below r x.0 x.2.0)), x.3)) (λ k x. (x.0, x.1, x.2.0, x.3)) h

module _ (g : Routing) (levels : List ℕ) where
  abbrev r : Rack
  r = g.rack

  abbrev SoFar : Tally → ℕ → ℕ → Type 0
  SoFar t u v = Uses g levels (Sooner r u v) t.lanes t.levels t.longest

  pub row : (t : Tally) (u : ℕ) → SoFar t u (node_count r) → SoFar t (suc u) 0
  row t u h =
      record {
        lanes = before_row r (UsesLane g levels) t.lanes u h.lanes;
        top = before_row r (UsesLevel g levels) t.levels u h.top;
        hops = before_row r (HasHop g levels) t.longest u h.hops;
      }

  pub skip : (t : Tally) (u v : ℕ) → (PairOf r u v → ⊥) → SoFar t u v → SoFar t u (suc v)
  skip t u v none h =
      record {
        lanes = before_skip r (UsesLane g levels) t.lanes u v none h.lanes;
        top = before_skip r (UsesLevel g levels) t.levels u v none h.top;
        hops = before_skip r (HasHop g levels) t.longest u v none h.hops;
      }

  -- the pairs before a place are tallied
  abbrev pub TalliedFrom : ℕ → Tally → Type 0
  TalliedFrom from t = Taken r (SoFar t) (row t) (skip t) from

  abbrev pub nothing : Tally
  nothing = record { lanes = 0; levels = 0; longest = 0 }

  abbrev pub greater : Tally → Tally → Tally
  greater s t = record { lanes = max s.lanes t.lanes; levels = max s.levels t.levels; longest = max s.longest t.longest }

  pub tally_start : TalliedFrom 0 nothing
  tally_start =
      taken_start r (SoFar nothing) (row nothing) (skip nothing)
      (record { lanes = before_start r (UsesLane g levels); top = before_start r (UsesLevel g levels); hops = before_start r (HasHop g levels) })

  tally_both : (from : ℕ) (p : Pair) (s t : Tally) → NextPair r from (Some p) → TalliedFrom from s → OneTallied g levels p.sender.0 p.receiver.0 t → TalliedFrom (pair_place r p.sender.0 p.receiver.0 + 1) (greater s t)
  tally_both from p s t next h one =
      let u = p.sender.0 in
      let v = p.receiver.0 in
      let so_far = taken_next r (SoFar s) (row s) (skip s) from p next h in
      taken_more r (SoFar (greater s t)) (row (greater s t)) (skip (greater s t)) u v next.0
      (record {
        lanes = before_one r (UsesLane g levels) s.lanes t.lanes u v next.0 so_far.lanes one.0;
        top = before_one r (UsesLevel g levels) s.levels t.levels u v next.0 so_far.top one.1;
        hops = before_one r (HasHop g levels) s.longest t.longest u v next.0 so_far.hops one.2;
      })

  pub tally_more :
      (from : ℕ) (p : Pair) (s t both : Tally) → NextPair r from (Some p) → TalliedFrom from s → OneTallied g levels p.sender.0 p.receiver.0 t → both ≡ greater s t →
      TalliedFrom (pair_place r p.sender.0 p.receiver.0 + 1) both
  tally_more from p s t both next h one e = subst (TalliedFrom (pair_place r p.sender.0 p.receiver.0 + 1)) (sym e) (tally_both from p s t next h one)

  pub tally_end : (from : ℕ) (t : Tally) → NextPair r from None → TalliedFrom from t → Tallied g levels t
  tally_end from t none h =
      let all = taken_end r (SoFar t) (row t) (skip t) from none h in
      record {
        lanes = before_end r (UsesLane g levels) t.lanes all.lanes;
        top = before_end r (UsesLevel g levels) t.levels all.top;
        hops = before_end r (HasHop g levels) t.longest all.hops;
      }
