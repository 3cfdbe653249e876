-- Each call on the fabric under a sound plan is a step of the law of courses, and keeps every packet in its place. Assumes nothing.
use Rattle.std.proofs.Common.{◌≡◌, ℕ, suc, ◌+◌, ◌*◌, ◌/◌, ◌%◌, ◌<◌, ◌≤◌, Bool, true, false, cond, eqb, List, [], ◌∷◌, ◌++◌, map, length, get_or, set, Some, None, Option, Ok, Err, sym, refl, ap, ◌∙◌, subst, inl, inr, ⊎_elim, zero-add, arith, length-set, eqb-true}
use Rattle.std.proofs.lemmas.List.{length-map}
use Rattle.std.specs.Prelude.{All}
use Rattle.std.proofs.lemmas.List.Elements.{All-nil, All-head, All-rest, All-weaker, All-map}
use Rattle.std.proofs.lemmas.Bool.{cases_lt}
use Rattle.std.proofs.lemmas.Option.{same_Some}
use Rattle.rack.specs.Racks.{channel_count, head, Leaving}
use Rattle.rack.proofs.Facts.{few_channels}
use Rattle.routing.specs.declared.pair.Pair.{Pair}
use Rattle.routing.specs.Sources.{enters_switch}
use Rattle.routing.specs.Turns.{turns}
use Rattle.routing.specs.Paths.{Hop, hop, behind, hop_at}
use Rattle.routing.proofs.Hops.{only_out, came, behind_some}
use Rattle.routing.proofs.Tests.{turns_below}
use Rattle.checking.specs.Plans.{virtual}
use Rattle.courses.specs.Queues.{to, home, Queues, at, push, Forwards as ForwardsThere, Takes as TakesThere, Event, refused, admitted, forwarded, taken, Step, refuses, admits, forwards, takes}
use Rattle.courses.specs.Law.{OnWay, Placed, Stirs as StirsThere, by_forward, by_take}
use Rattle.courses.proofs.Sets.{some_queue, each_set, each_push}
use Rattle.fabric.specs.declared.packet.Packet.{Packet}
use Rattle.fabric.specs.declared.packet.Delivery.{Delivery}
use Rattle.fabric.specs.declared.call.Call.{Call}
use Rattle.fabric.specs.declared.call.Call.TheVariants.{Admit, Forward, Take}
use Rattle.fabric.specs.declared.call.Done.TheVariants.{Admitted, Forwarded, Taken}
use Rattle.fabric.specs.Packets.{next_hop, moved, delivery}
use Rattle.fabric.specs.Calls.{Setup, queue_count, Ready, level_for, PairHere, Admits, GoesOn, Forwards, Takes, Answer, Acts}
use Rattle.fabric.specs.Courses.{event, path, path_of, InPlace, AllInPlace, standing, Stirs}
use Rattle.fabric.proofs.Hops.{at_place, of_place}
use Rattle.fabric.proofs.Roads.{Good, hop_again, on_hop, rules, leads, pair_starts, out, out_leaves, HopIs, path_is, low, narrow, last_hop, not_later, leads_home, leads_on}
use Rattle.fabric.proofs.Standing.{told_cons, some_at, bounded, unbounded, stand, stand_length, stand_at, stand_past, stand_set, stand_push}

-- whether the first packet of a queue is home, and where else it goes on to
home_if : (b : Bool) (o : Option Hop) → cond b home (on_hop o) ≡ home → b ≡ true
home_if true o e = refl
home_if false None e = absurd cc
home_if false (Some h) e = absurd cc

on_if : (b : Bool) (o : Option Hop) (y : ℕ) → cond b home (on_hop o) ≡ to y → (h : Hop) × (o ≡ Some h) × (virtual h ≡ y)
on_if true o y e = absurd cc
on_if false None y e = absurd cc
on_if false (Some h) y e = (h, refl, cc)

module _ {s : Setup} (good : Good s) where
  abbrev n : ℕ
  n = queue_count s

  -- in its place, if in a queue of the rack
  abbrev In : ℕ → Packet → Type 0
  In x p = x < n → InPlace s x p

  -- hop j of a pair's path, by its place
  hop_place : (p : Pair) (pair : PairHere s p) (j : ℕ) (h : Hop) → HopIs good p pair j h → (j < channel_count s.routes.rack) × (j < length (path s p)) × (get_or (path s p) j 0 ≡ virtual h)
  hop_place p pair j h e =
      let l = last_hop good p pair in
      let short : j < channel_count s.routes.rack = omega (arith, not_later good p pair l.0 l.1 l.2 j h e, l.2.short) in
      let o = out good p pair in
      let b = at_place s.routes o p.receiver.0 (level_for s p) 0 (channel_count s.routes.rack) j h (ap (hop_at s.routes o p.receiver.0 (level_for s p)) (zero-add j) ∙ e) short in
      let is = path_is good p pair in
      (short, omega (arith, b.0, ap length is), ap (λ xs. get_or xs j 0) is ∙ b.1)

  place_hop : (p : Pair) (pair : PairHere s p) (j : ℕ) → j < length (path s p) → (h : Hop) × HopIs good p pair j h × (get_or (path s p) j 0 ≡ virtual h)
  place_hop p pair j l =
      let o = out good p pair in
      let is = path_is good p pair in
      let b = of_place s.routes o p.receiver.0 (level_for s p) 0 (channel_count s.routes.rack) j (omega (arith, ap length is)) in
      (b.0, ap (hop_at s.routes o p.receiver.0 (level_for s p)) (sym (zero-add j)) ∙ b.1, ap (λ xs. get_or xs j 0) is ∙ b.2)

  -- a packet in its place is on the hop whose number its queue has
  here : (x : ℕ) (p : Packet) (i : InPlace s x p) → HopIs good p.pair i.pair p.hop (hop (x / 8) (x % 8))
  here x p i =
      let b = place_hop p.pair i.pair p.hop i.on_path in
      let number : x ≡ virtual b.0 = sym i.place ∙ b.2 in
      b.1 ∙ ap Some (sym (hop_again b.0 (narrow good p.pair i.pair p.hop b.0 b.1)) ∙ ap (λ y. hop (y / 8) (y % 8)) (sym number))

  -- where it goes on to is its next hop
  next_here : (x : ℕ) (p : Packet) (i : InPlace s x p) (h : Hop) → GoesOn s x p h → (leads s x (delivery p) ≡ to (virtual h)) × HopIs good p.pair i.pair (suc p.hop) h
  next_here x p i h goes =
      let v = p.pair.receiver.0 in
      let level = level_for s p.pair in
      let lane : s.routes.lane (x / 8) h.channel level ≡ h.lane = ap (s.routes.lane (x / 8) h.channel) (sym i.level) ∙ sym goes.3 in
      let next : behind s.routes v level (Some (hop (x / 8) (x % 8))) ≡ Some h = behind_some s.routes v level (hop (x / 8) (x % 8)) h.channel goes.0 goes.1 goes.2 ∙ ap (λ y. Some (hop h.channel y)) lane in
      (leads_on good p.pair i.pair (delivery p) refl x h goes.0 next, ap (behind s.routes v level) (here x p i) ∙ next)

  -- a packet that is admitted is in its place
  enters_place : (p : Packet) (c : ℕ) → PairHere s p.pair → p.level.number ≡ level_for s p.pair → p.hop ≡ 0 → Leaving s.routes.rack p.pair.sender.0 c → InPlace s (8 * c) p
  enters_place p c pair level hop_0 leaves =
      let o = out good p.pair pair in
      let b = hop_place p.pair pair 0 (hop o 0) refl in
      let same : c ≡ o = only_out s.routes.rack p.pair.sender.0 c o pair.0 leaves (out_leaves good p.pair pair) in
      record {
        pair = pair;
        level = level;
        on_path = omega (arith, b.1);
        place = ap (λ j. get_or (path s p.pair) j 0) hop_0 ∙ b.2 ∙ (let z : 8 * o + 0 ≡ 8 * c = omega arith in z);
      }

  -- and so is one that was forwarded
  moves_place : (x : ℕ) (p : Packet) → InPlace s x p → (h : Hop) → GoesOn s x p h → InPlace s (virtual h) (moved p)
  moves_place x p i h goes =
      let b = hop_place p.pair i.pair (suc p.hop) h (next_here x p i h goes).1 in
      let few : channel_count s.routes.rack ≤ 512 = few_channels s.routes.rack in
      let next : next_hop p.hop ≡ suc p.hop = omega (arith, b.0) in
      record {
        pair = i.pair;
        level = i.level;
        on_path = omega (arith, b.1);
        place = ap (λ j. get_or (path s p.pair) j 0) next ∙ b.2;
      }

  -- a packet in its place stands on its way
  on_way : (x : ℕ) (p : Packet) → InPlace s x p → OnWay (rules s) (path_of s) x (delivery p)
  on_way x p i = record {
    first = 8 * out good p.pair i.pair;
    starts = pair_starts s (delivery p) (out good p.pair i.pair) i.pair (out_leaves good p.pair i.pair);
    some_ahead = some_at (path s p.pair) p.hop x i.on_path i.place;
  }

  module _ (qs : Queues Packet) (long : n ≤ length qs) (placed : AllInPlace s qs) where
    pub stand_placed : Placed (rules s) (path_of s) (standing s qs)
    stand_placed x =
        ⊎_elim
        (λ (l : x < n).
        subst (All (OnWay (rules s) (path_of s) x)) (sym (stand_at n qs long x l))
        (All-map (OnWay (rules s) (path_of s) x) delivery (at qs x) (All-weaker (InPlace s x) (λ p. OnWay (rules s) (path_of s) x (delivery p)) (on_way x) (at qs x) (placed x l))))
        (λ (l : n ≤ x). subst (All (OnWay (rules s) (path_of s) x)) (sym (stand_past n qs long x l)) (All-nil (OnWay (rules s) (path_of s) x)))
        (cases_lt x n)

    first_placed : (x : ℕ) (p : Packet) (rest : List Packet) → x < n → at qs x ≡ p ∷ rest → InPlace s x p
    first_placed x p rest l e = All-head (InPlace s x) p rest (subst (All (InPlace s x)) e (placed x l))

    everywhere : (z : ℕ) → All (In z) (at qs z)
    everywhere = bounded n (InPlace s) qs placed

    rest_placed : (x : ℕ) (p : Packet) (rest : List Packet) → at qs x ≡ p ∷ rest → All (In x) rest
    rest_placed x p rest e = All-rest (In x) p rest (at qs x) e (everywhere x)

    first_stands : (x : ℕ) (p : Packet) (rest : List Packet) → x < n → at qs x ≡ p ∷ rest → at (standing s qs) x ≡ delivery p ∷ map delivery rest
    first_stands x p rest l e = stand_at n qs long x l ∙ ap (map delivery) e

    count_stands : (x : ℕ) → x < n → length (at (standing s qs) x) ≡ length (at qs x)
    count_stands x l = ap length (stand_at n qs long x l) ∙ length-map (at qs x) delivery

    -- what a call made of the queues
    pub record Made (e : Event Delivery) (after : Queues Packet) : Type 0 where
      pub step : Step (rules s) (standing s qs) e (standing s after)
      pub placed_after : AllInPlace s after
      pub long_after : n ≤ length after

    settle : (after q : Queues Packet) → after ≡ q → ((z : ℕ) → All (In z) (at q z)) → AllInPlace s after
    settle after q e h = subst (AllInPlace s) (sym e) (unbounded n (InPlace s) q h)

    admit_made : (p : Pair) (t : ℕ) (after : Queues Packet) → Admits s qs p t after → Made (admitted (record { pair = p; tag = t })) after
    admit_made p t after m =
        let d : Delivery = record { pair = p; tag = t } in
        let x = 8 * m.out in
        let inside : x < n = omega (arith, m.leaves.0) in
        let told : delivery m.packet ≡ d = λ i. record { pair = m.its_pair i; tag = m.its_tag i } in
        let its = subst (λ (o : Pair). PairHere s o × Leaving s.routes.rack o.sender.0 m.out × (m.packet.level.number ≡ level_for s o)) (sym m.its_pair) (m.pair, m.leaves, m.its_level) in
        record {
          step = admits (record {
            into = x;
            starts = pair_starts s d m.out m.pair m.leaves;
            there = omega (arith, stand_length n qs long);
            fits = omega (arith, count_stands x inside, m.fits);
            after = ap (stand n) m.pushed ∙ stand_push n qs long x m.packet inside ∙ ap (push (standing s qs) x) told;
          });
          placed_after = settle after (push qs x m.packet) m.pushed (each_push In qs x m.packet everywhere (λ l. enters_place m.packet m.out its.0 its.2 m.its_hop its.1));
          long_after = omega (arith, long, ap length m.pushed, length-set qs x (at qs x ++ (m.packet ∷ [])));
        }

    forward_made : (x : ℕ) (h : Hop) (after : Queues Packet) → Forwards s qs x h after → Made forwarded after
    forward_made x h after m =
        let p = m.packet in
        let rest = m.rest in
        let l : x < n = m.can.first.1 in
        let e = m.can.first.2 in
        let goes = m.can.goes in
        let y = virtual h in
        let i = first_placed x p rest l e in
        let inside : y < n = omega (arith, turns_below s.routes.rack (x / 8) h.channel goes.2, goes.4, good.ranged.1) in
        let q₁ = set qs x rest in
        let long_1 : n ≤ length q₁ = omega (arith, long, length-set qs x rest) in
        record {
          step = forwards {x = x} (record {
            packet = delivery p;
            rest = map delivery rest;
            next = y;
            first = first_stands x p rest l e;
            leads = (next_here x p i h goes).0;
            there = omega (arith, stand_length n qs long);
            fits = omega (arith, count_stands y inside, m.can.fits);
            after = ap (stand n) m.pushed ∙ stand_push n q₁ long_1 y (moved p) inside ∙ ap (λ t. push t y (delivery p)) (stand_set n qs long x rest l);
          });
          placed_after = settle after (push q₁ y (moved p)) m.pushed
              (each_push In q₁ y (moved p)
              (each_set In qs x rest everywhere (rest_placed x p rest e))
              (λ b. moves_place x p i h goes));
          long_after = omega (arith, long_1, ap length m.pushed, length-set q₁ y (at q₁ y ++ (moved p ∷ [])));
        }

    take_made : (x : ℕ) (d : Delivery) (after : Queues Packet) → Takes s qs x d after → Made (taken d) after
    take_made x d after m =
        let p = m.packet in
        let rest = m.rest in
        let l : x < n = m.can.first.1 in
        let e = m.can.first.2 in
        let i = first_placed x p rest l e in
        record {
          step = subst (λ o. Step (rules s) (standing s qs) (taken o) (standing s after)) (sym m.told)
              (takes {x = x} (record {
                rest = map delivery rest;
                first = first_stands x p rest l e;
                ends = leads_home good p.pair i.pair (delivery p) refl x m.can.home;
                after = ap (stand n) m.left ∙ stand_set n qs long x rest l;
              }));
          placed_after = settle after (set qs x rest) m.left (each_set In qs x rest everywhere (rest_placed x p rest e));
          long_after = omega (arith, long, ap length m.left, length-set qs x rest);
        }

    refuse_made : (after : Queues Packet) → after ≡ qs → Made refused after
    refuse_made after e = subst (Made refused) (sym e) (record { step = refuses; placed_after = placed; long_after = long })

    pub made : (c : Call) (a : Answer) (after : Queues Packet) → Acts s qs c a after → Made (event c a) after
    made (Admit p t) (Ok Admitted) after m = admit_made p t after m
    made (Forward x) (Ok (Forwarded c l)) after m = forward_made x.0 (hop c.0 l.number) after m
    made (Take x) (Ok (Taken d)) after m = take_made x.0 d after m
    made _ (Err f) after m = refuse_made after m.0
    made _ _ after m = elim m [ ]

    -- what could move by the law of courses can be forwarded or taken
    module _ (ready : Ready s qs) where
      can_forward : (x : ℕ) (t : Queues Delivery) → ForwardsThere (rules s) (standing s qs) x t → Stirs s qs
      can_forward x t m =
          let l : x < n = omega (arith, some_queue (standing s qs) x m.packet m.rest m.first, stand_length n qs long) in
          let b = told_cons (at qs x) m.packet m.rest (sym (stand_at n qs long x l) ∙ m.first) in
          let p = b.0 in
          let e = b.2 in
          let i = first_placed x p b.1 l e in
          let v = p.pair.receiver.0 in
          let level = level_for s p.pair in
          let now = hop (x / 8) (x % 8) in
          let o = on_if (eqb (head s.routes.rack (x / 8)) v) (behind s.routes v level (Some now)) m.next (ap (leads s x) b.3 ∙ m.leads) in
          let h = o.0 in
          let a = came s.routes v level (Some now) h o.1 in
          let f = subst (λ (k : Hop). (enters_switch s.routes.rack k.channel ≡ true) × ((d : ℕ) × (s.routes.next k.channel v ≡ Some d) × (turns s.routes.rack k.channel d ≡ true) × (h ≡ hop d (s.routes.lane k.channel d level))))
          (same_Some _ _ (sym a.1)) (a.2, a.3) in
          let on = subst (λ (k : Hop). (s.routes.next (x / 8) v ≡ Some k.channel) × (turns s.routes.rack (x / 8) k.channel ≡ true) × (k.lane ≡ s.routes.lane (x / 8) k.channel p.level.number))
          (sym f.1.3) (f.1.1, f.1.2, ap (s.routes.lane (x / 8) f.1.0) (sym i.level)) in
          let inside : m.next < n = omega (arith, m.there, stand_length n qs long) in
          let is_next : HopIs good p.pair i.pair (suc p.hop) h = ap (behind s.routes v level) (here x p i) ∙ o.1 in
          inl (
            x,
            p,
            b.1,
            h,
            record {
              first = (ready, l, e);
              goes = (f.0, on.0, on.1, on.2, low good p.pair i.pair (suc p.hop) h is_next);
              fits = omega (arith, m.fits, count_stands m.next inside, ap (λ y. length (at qs y)) o.2);
            },
          )

      can_take : (x : ℕ) (d : Delivery) (t : Queues Delivery) → TakesThere (rules s) (standing s qs) x d t → Stirs s qs
      can_take x d t m =
          let l : x < n = omega (arith, some_queue (standing s qs) x d m.rest m.first, stand_length n qs long) in
          let b = told_cons (at qs x) d m.rest (sym (stand_at n qs long x l) ∙ m.first) in
          let p = b.0 in
          let v = p.pair.receiver.0 in
          let at_home = home_if (eqb (head s.routes.rack (x / 8)) v) (behind s.routes v (level_for s p.pair) (Some (hop (x / 8) (x % 8)))) (ap (leads s x) b.3 ∙ m.ends) in
          inr (x, p, b.1, record { first = (ready, l, b.2); home = eqb-true (head s.routes.rack (x / 8)) p.pair.receiver.0 at_home })

      pub stirs : StirsThere (rules s) (standing s qs) → Stirs s qs
      stirs (by_forward x t m) = can_forward x t m
      stirs (by_take x d t m) = can_take x d t m
