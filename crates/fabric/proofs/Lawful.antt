-- Courses under a sound plan keep the law. Assumes nothing.
use Rattle.std.proofs.Common.{◌≡◌, ℕ, ◌≤◌, Bool, true, eqb, List, [], ◌∷◌, ◌++◌, map, length, filter, sym, refl, ap, ◌∙◌, subst, arith, eqb-true}
use Rattle.std.specs.Prelude.{All}
use Rattle.std.proofs.lemmas.List.Elements.{All-nil}
use Rattle.std.proofs.lemmas.List.{map-append}
use Rattle.std.proofs.lemmas.Bool.{and_parts}
use Rattle.routing.specs.declared.pair.Pair.{Pair}
use Rattle.routing.proofs.Determined.{same_nodes}
use Rattle.courses.specs.Queues.{to, Queues, Event, Course, done, then}
use Rattle.courses.specs.Law.{entered, left, waiting, Empty, Routed, Law}
use Rattle.courses.proofs.Kept.{keeps_law}
use Rattle.courses.proofs.Sets.{hops_empty}
use Rattle.fabric.specs.declared.packet.Packet.{Packet}
use Rattle.fabric.specs.declared.packet.Delivery.{Delivery}
use Rattle.fabric.specs.declared.call.Call.{Call}
use Rattle.fabric.specs.Packets.{delivery}
use Rattle.fabric.specs.Calls.{Setup, queue_count, NothingWaits, Answer}
use Rattle.fabric.specs.Courses.{Performs, done as done_here, then as then_here, events, path, path_of, InPlace, AllInPlace, standing, of_pair, pair_tags, waiting_tags, Lawful, LawfulFromEmpty, AcceptedPlan}
use Rattle.fabric.proofs.Roads.{rules, Good, routed}
use Rattle.fabric.proofs.Standing.{stand_length, stand_at, stand_none, none_stands}
use Rattle.fabric.proofs.Steps.{stand_placed, made, stirs}

no_waiting : {P : Type 0} (test : P → Bool) (xs : List ℕ) (q : Queues P) → Empty q → waiting test xs q ≡ []
no_waiting test [] q none = refl
no_waiting test (x ∷ xs) q none = let e : waiting test xs q ≡ [] = no_waiting test xs q none in rw (none x, e)

good_of : {s : Setup} {qs : Queues Packet} → AcceptedPlan s qs → Good s
good_of plan = record { ranged = plan.ready.0; sound = plan.sound }

-- what a course ends with
record Ended (s : Setup) (before : Queues Packet) (es : List (Event Delivery)) (after : Queues Packet) : Type 0 where
  course : Course (rules s) (standing s before) es (standing s after)
  placed : AllInPlace s after
  long : queue_count s ≤ length after

module _ (s : Setup) (deep : 1 ≤ s.depth) where
  ended : {before : Queues Packet} {calls : List Call} {answers : List Answer} {after : Queues Packet} → AcceptedPlan s before → AllInPlace s before → Performs s before calls answers after → Ended s before (events calls answers) after
  ended plan placed done_here = record { course = done; placed = placed; long = plan.ready.1.1 }
  ended plan placed (then_here {qs = q} {qs' = q'} {c = c} {a = a} act rest) =
      let m = made (good_of plan) q plan.ready.1.1 placed c a q' act in
      let plan' : AcceptedPlan s q' = record { ready = (plan.ready.0, (plan.ready.1.0, m.long_after)); sound = plan.sound } in
      let e = ended plan' m.placed_after rest in
      record { course = then m.step e.course; placed = e.placed; long = e.long }

  module _ (before : Queues Packet) (calls : List Call) (answers : List Answer) (after : Queues Packet) (performs : Performs s before calls answers after) (plan : AcceptedPlan s before) where
    abbrev es : List (Event Delivery)
    es = events calls answers

    abbrev n : ℕ
    n = queue_count s

    module _ (placed : AllInPlace s before) where
      e : Ended s before es after
      e = ended plan placed performs

      law : Law (rules s) (path_of s) (standing s before) es (standing s after)
      law =
          let r = routed (good_of plan) deep in
          keeps_law Delivery (rules s) (path_of s) (standing s before) (standing s after) es (subst (λ m. Routed (rules s) m (path_of s)) (sym (stand_length n before plan.ready.1.1)) r)
          (stand_placed (good_of plan) before plan.ready.1.1 placed) e.course

      -- nothing waits, as the queues say and as it is told
      none_told : NothingWaits s.routes.rack after → Empty (standing s after)
      none_told none = stand_none n after e.long none

      told_none : Empty (standing s after) → NothingWaits s.routes.rack after
      told_none none = none_stands n after e.long none

      in_order : (p : Pair) → waiting_tags s p before ++ pair_tags p (entered es) ≡ pair_tags p (left es) ++ waiting_tags s p after
      in_order p =
          let u = p.sender.0 in
          let v = p.receiver.0 in
          let test = of_pair u v in
          let same : (d : Delivery) (x : ℕ) → test d ≡ true → (rules s).start d ≡ to x → path_of s d ≡ path s p =
          λ d x t st. let both = and_parts (eqb d.pair.sender.0 u) (eqb d.pair.receiver.0 v) t in ap (path s) (same_nodes d.pair p (eqb-true d.pair.sender.0 u both.0) (eqb-true d.pair.receiver.0 v both.1)) in
          let o = law.ordered test (path s p) same in
          let tag : Delivery → ℕ = λ d. d.tag in
          sym (map-append tag (waiting test (path s p) (standing s before)) (filter test (entered es))) ∙ ap (map tag) o ∙ map-append tag (filter test (left es)) (waiting test (path s p) (standing s after))

      pub lawful : Lawful s before es after
      lawful = record {
        placed = e.placed;
        moving = λ w.
            let x = w.0 in
            stirs (good_of plan) after e.long e.placed (plan.ready.0, (plan.ready.1.0, e.long))
            (law.alive x (delivery w.1) (map delivery w.2) (stand_at n after e.long x w.3 ∙ ap (map delivery) w.4));
        counted = law.counted;
        settled = (λ none. law.settled.0 (none_told none), λ zero_ahead. told_none (law.settled.1 zero_ahead));
        drained = λ no_more. (λ none. (law.drained no_more).0 (none_told none), λ all_moved. told_none ((law.drained no_more).1 all_moved));
        ordered = in_order;
      }

    pub from_empty : NothingWaits s.routes.rack before → LawfulFromEmpty s es after
    from_empty none =
        let placed : AllInPlace s before = λ x l. subst (All (InPlace s x)) (sym (none x l)) (All-nil (InPlace s x)) in
        let w = lawful placed in
        let empty = stand_none n before plan.ready.1.1 none in
        record {
          placed = w.placed;
          moving = w.moving;
          counted = omega (arith, w.counted, hops_empty (path_of s) 0 (standing s before) empty);
          settled = w.settled;
          ordered = λ p.
              let start : waiting_tags s p before ≡ [] = ap (map (λ d. d.tag)) (no_waiting (of_pair p.sender.0 p.receiver.0) (path s p) (standing s before) empty) in
              ap (λ l. l ++ pair_tags p (entered es)) (sym start) ∙ w.ordered p;
        }
