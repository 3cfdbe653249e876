-- The walk along a path has one answer. Assumes nothing.
use Rattle.std.proofs.Common.{◌≡◌, ℕ, suc, ◌+◌, ◌-◌, ◌<◌, ◌≤◌, true, false, cond, eqb, ◌⊎◌, List, length, get_or, Some, None, Option, sym, refl, ap, ◌∙◌, subst, inl, inr, ⊎_elim, arith, eq-eqb, ne_eqb}
use Rattle.std.proofs.lemmas.Bool.{both_ways, cases_lt, cond-true, cond-false}
use Rattle.std.proofs.lemmas.Option.{none-some, same_Some}
use Rattle.rack.specs.Racks.{channel_count, head}
use Rattle.routing.specs.declared.pair.Pair.{Pair}
use Rattle.routing.specs.declared.fault.WalkFault.{WalkFault}
use Rattle.routing.specs.declared.fault.WalkFault.TheVariants.{NoPair, Endless, NoChannel, Elsewhere, Lane, OtherHost, Memory}
use Rattle.routing.specs.declared.walk.Step.{Step}
use Rattle.routing.specs.Sources.{enters_switch}
use Rattle.routing.specs.Turns.{turns}
use Rattle.routing.specs.Paths.{Routing, Hop, PairOf, hop_at, OnPath, Delivered}
use Rattle.routing.specs.Walks.{hop_of, Reaches, Walked, Stops, WalkStops}
use Rattle.routing.specs.Laws.{OfPath, StoppedUndelivered, WalkedOrStopped, OneFault, OnePath}
use Rattle.routing.proofs.Hops.{came, gone, hop_last, from_first}
use Rattle.routing.proofs.Rounds.{something, into_host, never_delivered}

-- pairs of the same sender and receiver are the same
pub same_nodes : (p q : Pair) → p.sender.0 ≡ q.sender.0 → p.receiver.0 ≡ q.receiver.0 → p ≡ q
same_nodes p q a b = λ i. record { sender = record { 0 = a i }; receiver = record { 0 = b i } }

-- what a walk that begins is found to be at the last hop that it reaches
data Find : Type 0 where
  endless : Find
  unnamed : Find
  elsewhere : Find
  above : Find
  other : Find
  arrived : Find

-- the fault that it then meets; none at the receiver
abbrev fault_of : Pair → ℕ → Find → WalkFault
fault_of p m endless = Endless p (m + 1)
fault_of p m unnamed = NoChannel p (m + 1)
fault_of p m elsewhere = Elsewhere p (m + 1)
fault_of p m above = Lane p (m + 1)
fault_of p m other = OtherHost p m
fault_of p m arrived = Memory

module _ (g : Routing) (lanes : ℕ) (p : Pair) (s : ℕ) where
  abbrev C : ℕ
  C = channel_count g.rack

  abbrev u : ℕ
  u = p.sender.0

  abbrev v : ℕ
  v = p.receiver.0

  -- what is found behind channel c
  abbrev behind_it : ℕ → Option ℕ → Find
  behind_it c None = unnamed
  behind_it c (Some d) = cond (turns g.rack c d) above elsewhere

  -- what is found at hop m, on channel c
  abbrev find : ℕ → ℕ → Find
  find m c = cond (enters_switch g.rack c) (cond (eqb (m + 1) C) endless (behind_it c (g.next c v))) (cond (eqb (head g.rack c) v) arrived other)

  -- hop m is h, and it is the last that is reached
  record Last (m : ℕ) (h : Hop) (x : Find) : Type 0 where
    pair : PairOf g.rack u v
    reaches : Reaches g lanes u v s m h
    below : m < C
    found : find m h.channel ≡ x
    stops : (j : ℕ) (k : Hop) → m < j → j < C → Reaches g lanes u v s j k → ⊥

  -- a hop is named behind one that is not the last of the path
  followed_by : (c m j : ℕ) (h k : Hop) → hop_at g c v s m ≡ Some h → m < j → hop_at g c v s j ≡ Some k → (d : ℕ) × (g.next h.channel v ≡ Some d) × (turns g.rack h.channel d ≡ true)
  followed_by c m j h k e l f =
      let some = something (hop_at g c v s (suc m)) (λ none. none-some k (sym (gone g v s c (suc m) j (omega arith) none) ∙ f)) in
      let b = came g v s (hop_at g c v s m) some.0 some.1 in
      let same : b.0 ≡ h = same_Some _ _ (sym b.1 ∙ e) in
      subst (λ (x : Hop). (d : ℕ) × (g.next x.channel v ≡ Some d) × (turns g.rack x.channel d ≡ true)) same (b.3.0, b.3.1, b.3.2)

  find_endless : (m c : ℕ) → enters_switch g.rack c ≡ true → m + 1 ≡ C → find m c ≡ endless
  find_endless m c sw e = cond-true _ _ _ sw ∙ cond-true _ _ _ (eq-eqb (m + 1) C e)

  find_behind : (m c : ℕ) → enters_switch g.rack c ≡ true → m + 1 < C → find m c ≡ behind_it c (g.next c v)
  find_behind m c sw l = cond-true _ _ _ sw ∙ cond-false _ _ _ (ne_eqb (m + 1) C (λ e. omega arith))

  find_end : (m c : ℕ) → enters_switch g.rack c ≡ false → find m c ≡ cond (eqb (head g.rack c) v) arrived other
  find_end m c sw = cond-false _ _ _ sw

  -- nothing comes behind a hop that enters no switch
  end_stops : (m : ℕ) (h : Hop) → PairOf g.rack u v → OnPath g u v s m h → enters_switch g.rack h.channel ≡ false → (j : ℕ) (k : Hop) → m < j → Reaches g lanes u v s j k → ⊥
  end_stops m h pair on sw j k l r = hop_last g v s on.0 m j h k on.2 sw l (from_first g u v s on.0 j k pair.0 on.1 r.0)

  -- a hop behind hop m names its channel
  next_named : (m j : ℕ) (h k : Hop) → PairOf g.rack u v → OnPath g u v s m h → m < j → OnPath g u v s j k → (d : ℕ) × (g.next h.channel v ≡ Some d) × (turns g.rack h.channel d ≡ true)
  next_named m j h k pair on l r = followed_by on.0 m j h k on.2 l (from_first g u v s on.0 j k pair.0 on.1 r)

  -- where nothing comes behind a hop that does not end at the receiver, the packets never arrive
  undelivered :
      (m : ℕ) (h : Hop) → PairOf g.rack u v → OnPath g u v s m h → ((j : ℕ) (k : Hop) → m < j → OnPath g u v s j k → ⊥) → (head g.rack h.channel ≡ v → ⊥) →
      Delivered g u v s → ⊥
  undelivered m h pair on none ne d =
      let n = d.0 in
      let k = d.1.0 in
      let there = d.1.1 in
      let sw = into_host g k.channel v pair.1 d.1.3 in
      ⊎_elim
      (λ (l : m < n). none n k l there)
      (λ (l : n ≤ m).
      ⊎_elim
      (λ (l' : n < m). hop_last g v s there.0 n m k h there.2 sw l' (from_first g u v s there.0 m h pair.0 there.1 on))
      (λ (l' : m ≤ n).
      let e : m ≡ n = omega arith in
      let same : k ≡ h = same_Some _ _ (sym there.2 ∙ from_first g u v s there.0 n h pair.0 there.1 (subst (λ i. OnPath g u v s i h) e on)) in
      ne (ap (λ (x : Hop). head g.rack x.channel) (sym same) ∙ d.1.3))
      (cases_lt n m))
      (cases_lt m n)

  -- a switch is not the receiver
  switch_on : (h : Hop) → PairOf g.rack u v → enters_switch g.rack h.channel ≡ true → head g.rack h.channel ≡ v → ⊥
  switch_on h pair sw e = both_ways _ (into_host g h.channel v pair.1 e) sw

  stopped_of : (room : ℕ) (f : WalkFault) → WalkStops g lanes p s room f → OfPath f → Delivered g u v s → ⊥
  stopped_of room (NoPair q) e o d = o
  stopped_of room (Endless q k) e o d =
      let st = e.0.1 in
      let more : k - 1 + 1 ≡ channel_count g.rack = omega (arith, st.later, e.1) in
      never_delivered g u v s st.pair.0 st.pair.1 (k - 1, more, (e.0.0, st.before.0, st.switch)) d
  stopped_of room (NoChannel q k) e o d =
      let st = e.0.1 in
      let h = e.0.0 in
      undelivered (k - 1) h st.pair st.before.0
      (λ j i l on. let n = next_named (k - 1) j h i st.pair st.before.0 l on in none-some n.0 (sym e.0.2 ∙ n.1))
      (switch_on h st.pair st.switch)
      d
  stopped_of room (Elsewhere q k) e o d =
      let st = e.0.1 in
      let h = e.0.0 in
      let x = e.0.2 in
      undelivered (k - 1) h st.pair st.before.0
      (λ j i l on.
      let n = next_named (k - 1) j h i st.pair st.before.0 l on in
      let same : n.0 ≡ x.0 = same_Some _ _ (sym n.1 ∙ x.1) in
      both_ways _ x.2 (subst (λ y. turns g.rack h.channel y ≡ true) same n.2))
      (switch_on h st.pair st.switch)
      d
  stopped_of room (Lane q k) e o d = o
  stopped_of room (OtherHost q k) e o d =
      let t = e.3 in
      let on = t.1.0 in
      undelivered k t.0 e.1 on
      (λ j i l there. hop_last g v s on.0 k j t.0 i on.2 t.2 l (from_first g u v s on.0 j i e.1.0 on.1 there))
      t.3
      d
  stopped_of room Memory e o d = o

  -- a fault that is not want of memory tells that there is no pair, or the last hop that is reached
  abbrev Settled : WalkFault → Type 0
  Settled f = ((f ≡ NoPair p) × (PairOf g.rack u v → ⊥)) ⊎ ((m : ℕ) × (h : Hop) × (x : Find) × Last m h x × (f ≡ fault_of p m x))

  module _ (q : Pair) (k : ℕ) (h : Hop) (st : Stops g lanes p q s k h) where
    one_more : k - 1 + 1 ≡ k
    one_more = omega (arith, st.later)

    last_endless : k ≡ C → Last (k - 1) h endless
    last_endless all =
        record {
          pair = st.pair;
          reaches = st.before;
          below = omega (arith, st.later);
          found = find_endless (k - 1) h.channel st.switch (one_more ∙ all);
          stops = λ j i l few r. omega (arith, st.later);
        }

    last_unnamed : k < C → g.next h.channel v ≡ None → Last (k - 1) h unnamed
    last_unnamed few none =
        record {
          pair = st.pair;
          reaches = st.before;
          below = omega (arith, st.later);
          found = find_behind (k - 1) h.channel st.switch (omega (arith, one_more)) ∙ ap (behind_it h.channel) none;
          stops = λ j i l few r. let d = next_named (k - 1) j h i st.pair st.before.0 l r.0 in none-some d.0 (sym none ∙ d.1);
        }

    last_elsewhere : k < C → (d : ℕ) → g.next h.channel v ≡ Some d → turns g.rack h.channel d ≡ false → Last (k - 1) h elsewhere
    last_elsewhere few d nx tn =
        record {
          pair = st.pair;
          reaches = st.before;
          below = omega (arith, st.later);
          found = find_behind (k - 1) h.channel st.switch (omega (arith, one_more)) ∙ ap (behind_it h.channel) nx ∙ cond-false _ _ _ tn;
          stops = λ j i l few r.
              let e = next_named (k - 1) j h i st.pair st.before.0 l r.0 in
              let same : e.0 ≡ d = same_Some _ _ (sym e.1 ∙ nx) in
              both_ways _ tn (subst (λ x. turns g.rack h.channel x ≡ true) same e.2);
        }

    last_above : k < C → (i : Hop) → OnPath g u v s k i → lanes ≤ i.lane → Last (k - 1) h above
    last_above few i on high =
        let e = next_named (k - 1) k h i st.pair st.before.0 (omega (arith, st.later)) on in
        record {
          pair = st.pair;
          reaches = st.before;
          below = omega (arith, st.later);
          found = find_behind (k - 1) h.channel st.switch (omega (arith, one_more)) ∙ ap (behind_it h.channel) e.1 ∙ cond-true _ _ _ e.2;
          stops = λ j o l few r. omega (arith, r.1 k i st.later (omega (arith, one_more)) on);
        }

  last_other : (k : ℕ) (h : Hop) → PairOf g.rack u v → k < C → Reaches g lanes u v s k h → enters_switch g.rack h.channel ≡ false → (head g.rack h.channel ≡ v → ⊥) → Last k h other
  last_other k h pair few r sw ne =
      record {
        pair = pair;
        reaches = r;
        below = few;
        found = find_end k h.channel sw ∙ cond-false _ _ _ (ne_eqb (head g.rack h.channel) v ne);
        stops = λ j i l few' r'. end_stops k h pair r.0 sw j i l r';
      }

  last_arrived : (path : List Step) (w : Walked g lanes p s path) → Last (length path - 1) w.ends.0 arrived
  last_arrived path w =
      let h = w.ends.0 in
      let sw = into_host g h.channel v w.pair.1 w.ends.3 in
      record {
        pair = w.pair;
        reaches = (w.ends.1, λ j k a b on. w.low j k a on);
        below = omega (arith, w.some, w.short);
        found = find_end (length path - 1) h.channel sw ∙ cond-true _ _ _ (eq-eqb (head g.rack h.channel) v w.ends.3);
        stops = λ j i l few r. end_stops (length path - 1) h w.pair w.ends.1 sw j i l r;
      }

  settled : (room : ℕ) (f : WalkFault) → WalkStops g lanes p s room f → (f ≡ Memory → ⊥) → Settled f
  settled room (NoPair q) e n = inl (ap NoPair e.0, e.1)
  settled room (Endless q k) e n =
      let st = e.0.1 in inr (k - 1, e.0.0, endless, last_endless q k e.0.0 st e.1, ap (λ x. Endless x k) st.told ∙ ap (Endless p) (sym (one_more q k e.0.0 st)))
  settled room (NoChannel q k) e n =
      let st = e.0.1 in inr (k - 1, e.0.0, unnamed, last_unnamed q k e.0.0 st e.1 e.0.2, ap (λ x. NoChannel x k) st.told ∙ ap (NoChannel p) (sym (one_more q k e.0.0 st)))
  settled room (Elsewhere q k) e n =
      let st = e.0.1 in
      let d = e.0.2 in
      inr (k - 1, e.0.0, elsewhere, last_elsewhere q k e.0.0 st e.1 d.0 d.1 d.2, ap (λ x. Elsewhere x k) st.told ∙ ap (Elsewhere p) (sym (one_more q k e.0.0 st)))
  settled room (Lane q k) e n =
      let st = e.0.1 in
      let i = e.1 in
      inr (k - 1, e.0.0, above, last_above q k e.0.0 st e.2 i.0 i.1 i.2, ap (λ x. Lane x k) st.told ∙ ap (Lane p) (sym (one_more q k e.0.0 st)))
  settled room (OtherHost q k) e n = let h = e.3 in inr (k, h.0, other, last_other k h.0 e.1 e.2 h.1 h.2 h.3, ap (λ x. OtherHost x k) e.0)
  settled room Memory e n = absurd (n refl)

  module _ (m m' : ℕ) (h h' : Hop) (x x' : Find) (a : Last m h x) (b : Last m' h' x') where
    same_hop : m ≡ m'
    same_hop =
        ⊎_elim
        (λ (l : m < m'). absurd (a.stops m' h' l b.below b.reaches))
        (λ (l : m' ≤ m).
        ⊎_elim
        (λ (l' : m' < m). absurd (b.stops m h l' a.below a.reaches))
        (λ (l' : m ≤ m'). omega arith)
        (cases_lt m' m))
        (cases_lt m m')

    same_channel : h ≡ h'
    same_channel =
        let on = a.reaches.0 in
        same_Some _ _ (sym on.2 ∙ from_first g u v s on.0 m h' a.pair.0 on.1 (subst (λ n. OnPath g u v s n h') (sym same_hop) b.reaches.0))

    same_find : x ≡ x'
    same_find = sym a.found ∙ ap (λ n. find n h.channel) same_hop ∙ ap (λ (k : Hop). find m' k.channel) same_channel ∙ b.found

    same_fault : fault_of p m x ≡ fault_of p m' x'
    same_fault = ap (λ n. fault_of p n x) same_hop ∙ ap (fault_of p m') same_find

  one_fault_of : (f f' : WalkFault) → Settled f → Settled f' → f ≡ f'
  one_fault_of f f' (inl a) (inl b) = a.0 ∙ sym b.0
  one_fault_of f f' (inl a) (inr b) = absurd (a.1 b.3.pair)
  one_fault_of f f' (inr a) (inl b) = absurd (b.1 a.3.pair)
  one_fault_of f f' (inr a) (inr b) = a.4 ∙ same_fault a.0 b.0 a.1 b.1 a.2 b.2 a.3 b.3 ∙ sym b.4

  arrived_fault : (path : List Step) (f : WalkFault) → Walked g lanes p s path → Settled f → f ≡ Memory
  arrived_fault path f w (inl a) = absurd (a.1 w.pair)
  arrived_fault path f w (inr a) = a.4 ∙ same_fault a.0 (length path - 1) a.1 w.ends.0 a.2 arrived a.3 (last_arrived path w)

-- where there is room for the path, what is wrong is not want of memory
pub with_room : (g : Routing) (lanes : ℕ) (p : Pair) (s room : ℕ) (f : WalkFault) → channel_count g.rack ≤ room → WalkStops g lanes p s room f → WalkStops g lanes p s (channel_count g.rack) f
with_room g lanes p s room (NoPair q) l h = h
with_room g lanes p s room (Endless q k) l h = h
with_room g lanes p s room (NoChannel q k) l h = h
with_room g lanes p s room (Elsewhere q k) l h = h
with_room g lanes p s room (Lane q k) l h = h
with_room g lanes p s room (OtherHost q k) l h = h
with_room g lanes p s room Memory l h = absurd (omega (arith, h.1))

memory_or_not : (f : WalkFault) → (f ≡ Memory) ⊎ (f ≡ Memory → ⊥)
memory_or_not (NoPair q) = inr (λ e. let z : ◌≡◌ {A = ℕ} 0 1 = cc in omega arith)
memory_or_not (Endless q k) = inr (λ e. let z : ◌≡◌ {A = ℕ} 0 1 = cc in omega arith)
memory_or_not (NoChannel q k) = inr (λ e. let z : ◌≡◌ {A = ℕ} 0 1 = cc in omega arith)
memory_or_not (Elsewhere q k) = inr (λ e. let z : ◌≡◌ {A = ℕ} 0 1 = cc in omega arith)
memory_or_not (Lane q k) = inr (λ e. let z : ◌≡◌ {A = ℕ} 0 1 = cc in omega arith)
memory_or_not (OtherHost q k) = inr (λ e. let z : ◌≡◌ {A = ℕ} 0 1 = cc in omega arith)
memory_or_not Memory = inl refl

pub stopped_undelivered : StoppedUndelivered
stopped_undelivered g lanes p s room f e o d = stopped_of g lanes p s room f e o d

pub walked_or_stopped : WalkedOrStopped
walked_or_stopped g lanes p s room path f w e =
    ⊎_elim
    (λ (is : f ≡ Memory). is)
    (λ (n : f ≡ Memory → ⊥). arrived_fault g lanes p s path f w (settled g lanes p s room f e n))
    (memory_or_not f)

pub one_fault : OneFault
one_fault g lanes p s room room' f f' e e' n n' = one_fault_of g lanes p s f f' (settled g lanes p s room f e n) (settled g lanes p s room' f' e' n')

pub one_path : OnePath
one_path g lanes p s path path' w w' =
    let a = last_arrived g lanes p s path w in
    let b = last_arrived g lanes p s path' w' in
    let ends : length path - 1 ≡ length path' - 1 = same_hop g lanes p s (length path - 1) (length path' - 1) w.ends.0 w'.ends.0 arrived arrived a b in
    let long : length path ≡ length path' = omega (arith, w.some, w'.some) in (
      long,
      λ i d d' l.
          let on = w.lists i d l in
          same_Some _ _ (sym on.2 ∙ from_first g p.sender.0 p.receiver.0 s on.0 i (hop_of (get_or path' i d')) w.pair.0 on.1 (w'.lists i d' (omega arith))),
    )
