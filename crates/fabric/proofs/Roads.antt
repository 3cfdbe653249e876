-- The paths of a sound plan, as the law of courses wants them. Assumes nothing.
use Rattle.std.proofs.Common.{◌≡◌, ℕ, zero, suc, ◌+◌, ◌-◌, ◌*◌, ◌/◌, ◌%◌, ◌<◌, ◌≤◌, Bool, true, false, cond, not, ◌&&◌, eqb, [], ◌∷◌, Some, None, Option, sym, refl, ap, ◌∙◌, subst, ⊎_elim, arith, eq-eqb, ne_eqb}
use Rattle.std.specs.Prelude.{All}
use Rattle.std.proofs.lemmas.Bool.{both_ways, cases_eq, cases_lt, cases_Bool, cond-true, cond-false}
use Rattle.std.proofs.lemmas.Bool.Decides.{nat_tests}
use Rattle.std.proofs.lemmas.Option.{same_Some}
use Rattle.rack.specs.declared.rack.Rack.{Rack}
use Rattle.rack.specs.Racks.{channel_count, head, Leaving}
use Rattle.rack.proofs.Facts.{one_out}
use Rattle.routing.specs.declared.pair.Pair.{Pair}
use Rattle.routing.specs.Sources.{enters_switch, is_end}
use Rattle.routing.specs.Paths.{Routing, Hop, hop, behind, hop_at, EndsAtHop}
use Rattle.routing.proofs.Hops.{behind_ends, hop_below, hop_last, from_first}
use Rattle.routing.proofs.Rounds.{into_host, before, delivered_in_time, no_channel_twice}
use Rattle.routing.specs.Plans.{OneToEight}
use Rattle.checking.specs.Plans.{virtual, IsFollowedBy, FinePair, Sound}
use Rattle.courses.specs.Queues.{Onward, to, home, nowhere, Rules}
use Rattle.courses.specs.Law.{Path, ends, goes, Next, Once, Followed, Routed}
use Rattle.fabric.specs.declared.packet.Delivery.{Delivery}
use Rattle.fabric.specs.Calls.{Setup, queue_count, level_for, PairHere}
use Rattle.fabric.specs.Courses.{then_on, hops_on, channel_out, path, path_of}
use Rattle.fabric.proofs.Hops.{all_hops, once, next_hops, no_more}
use Rattle.fabric.proofs.Listed.{out_is, list_is}

-- the channel and the lane of a virtual channel's number
channel_of : (h : Hop) → h.lane < 8 → virtual h / 8 ≡ h.channel
channel_of h l = omega arith

pub hop_again : (h : Hop) → h.lane < 8 → hop (virtual h / 8) (virtual h % 8) ≡ h
hop_again h l = let lane : virtual h % 8 ≡ h.lane = omega arith in λ i. hop (channel_of h l i) (lane i)

-- where packets start, and where they go on
abbrev pub from_channel : Option ℕ → Onward
from_channel None = nowhere
from_channel (Some c) = to (8 * c)

abbrev pub on_hop : Option Hop → Onward
on_hop None = nowhere
on_hop (Some h) = to (virtual h)

abbrev pub starts : Setup → Delivery → Onward
starts s d =
    let r = s.routes.rack in
    let u = d.pair.sender.0 in
    let v = d.pair.receiver.0 in
    cond (is_end r u && (is_end r v && not (eqb u v))) (from_channel (channel_out r u)) nowhere

abbrev pub leads : Setup → ℕ → Delivery → Onward
leads s x d =
    cond (eqb (head s.routes.rack (x / 8)) d.pair.receiver.0) home
    (on_hop (behind s.routes d.pair.receiver.0 (level_for s d.pair) (Some (hop (x / 8) (x % 8)))))

abbrev pub rules : Setup → Rules Delivery
rules s = record { room = λ x. s.depth; start = starts s; onward = leads s }

module _ (s : Setup) (d : Delivery) where
  -- the test of a start
  abbrev starting : Bool
  starting = is_end s.routes.rack d.pair.sender.0 && (is_end s.routes.rack d.pair.receiver.0 && not (eqb d.pair.sender.0 d.pair.receiver.0))

  -- a packet that starts is of two different hosts, and starts on the channel out of its sender
  pub starts_pair : (x : ℕ) → starts s d ≡ to x → PairHere s d.pair
  starts_pair x e =
      ⊎_elim
      (λ (t : starting ≡ true). grind (arith, nat_tests))
      (λ (f : starting ≡ false). absurd (let out = sym (cond-false starting _ _ f) ∙ e in cc))
      (cases_Bool starting)

  pub pair_starts : (c : ℕ) → PairHere s d.pair → Leaving s.routes.rack d.pair.sender.0 c → starts s d ≡ to (8 * c)
  pair_starts c pair leaving =
      let t : starting ≡ true = grind (arith, nat_tests) in
      cond-true starting _ _ t ∙ ap from_channel (out_is s.routes.rack d.pair.sender.0 c pair.0 leaving)

-- the path of a pair of a sound plan
-- a plan whose lane count is in range and that is sound
pub record Good (s : Setup) : Type 0 where
  pub ranged : OneToEight s.lanes
  pub sound : Sound s.routes s.levels s.lanes

module _ {s : Setup} (good : Good s) (p : Pair) (pair : PairHere s p) where
  abbrev g : Routing
  g = s.routes

  abbrev r : Rack
  r = s.routes.rack

  abbrev u : ℕ
  u = p.sender.0

  abbrev v : ℕ
  v = p.receiver.0

  abbrev level : ℕ
  level = level_for s p

  -- the channel out of the sender
  abbrev pub out : ℕ
  out = (one_out r u pair.0).0

  pub out_leaves : Leaving r u out
  out_leaves = (one_out r u pair.0).1

  -- hop i of the path
  abbrev pub HopIs : ℕ → Hop → Type 0
  HopIs i h = hop_at g out v level i ≡ Some h

  pub path_is : path s p ≡ hops_on g out v level 0 (channel_count r)
  path_is = list_is s p pair

  fine : FinePair g s.levels s.lanes u v
  fine = good.sound.pairs u v pair

  pub low : (i : ℕ) (h : Hop) → HopIs i h → h.lane < s.lanes
  low i h e = fine.low i h (out, out_leaves, e)

  pub narrow : (i : ℕ) (h : Hop) → HopIs i h → h.lane < 8
  narrow i h e = omega (arith, low i h e, good.ranged.1)

  pub below : (i : ℕ) (h : Hop) → HopIs i h → h.channel < channel_count r
  below i h e = hop_below g v level out out_leaves.0 i h e

  -- the path ends with hop n
  pub record Last (n : ℕ) (h : Hop) : Type 0 where
    pub short : n < channel_count r
    pub is : HopIs n h
    pub home : head r h.channel ≡ v
    pub ends : EndsAtHop g u v level n

  pub last_hop : (n : ℕ) × (h : Hop) × Last n h
  last_hop =
      let d = (delivered_in_time g u v level pair.0 pair.1).0 fine.arrives in
      let e = d.2 in
      (d.0, e.0, record { short = d.1; is = from_first g u v level out d.0 e.0 pair.0 out_leaves e.1; home = e.3; ends = e })

  module _ (n : ℕ) (h : Hop) (last : Last n h) where
    -- no hop comes behind it
    pub not_later : (j : ℕ) (k : Hop) → HopIs j k → j ≤ n
    not_later j k e =
        ⊎_elim
        (λ (l : n < j). absurd (hop_last g v level out n j h k last.is (into_host g h.channel v pair.1 last.home) l e))
        (λ (l : j ≤ n). l)
        (cases_lt n j)

    -- a hop before it enters a switch, and another stands behind it
    pub goes_on : (i : ℕ) (k : Hop) → HopIs i k → i < n → (enters_switch r k.channel ≡ true) × ((o : Hop) × HopIs (suc i) o)
    goes_on i k e l =
        let b = before g out v level i n h l last.is in
        let same : b.0 ≡ k = same_Some _ _ (sym b.1 ∙ e) in (
          subst (λ (x : Hop). enters_switch r x.channel ≡ true) same b.2,
          ⊎_elim
              (λ (q : suc i ≡ n). (h, subst (λ m. HopIs m h) (sym q) last.is))
              (λ (q : suc i ≡ n → ⊥). let a = before g out v level (suc i) n h (omega arith) last.is in (a.0, a.1))
              (cases_eq (suc i) n),
        )

    -- no two hops have one number
    pub apart : (i j : ℕ) (k o : Hop) → i < j → HopIs i k → HopIs j o → virtual k ≡ virtual o → ⊥
    apart i j k o l a b same =
        no_channel_twice g u v level n pair.0 pair.1 last.ends i j k o l (not_later j o b) (out, out_leaves, a) (out, out_leaves, b)
        (let x = narrow i k a in let y = narrow j o b in omega arith)

  -- a hop that enters a switch does not enter the receiver
  pub not_home : (c : ℕ) → enters_switch r c ≡ true → head r c ≡ v → ⊥
  not_home c sw e = both_ways _ (into_host g c v pair.1 e) sw

  -- where a packet of the pair goes from a hop of its path
  module _ (d : Delivery) (its : d.pair ≡ p) where
    -- home, from a hop that enters the receiver
    pub leads_home : (x : ℕ) → head r (x / 8) ≡ v → leads s x d ≡ home
    leads_home x e = cond-true _ _ _ (eq-eqb (head r (x / 8)) d.pair.receiver.0 (e ∙ ap (λ (q : Pair). q.receiver.0) (sym its)))

    -- on, to the hop behind one that enters a switch
    pub leads_on : (x : ℕ) (o : Hop) → enters_switch r (x / 8) ≡ true → behind g v level (Some (hop (x / 8) (x % 8))) ≡ Some o → leads s x d ≡ to (virtual o)
    leads_on x o sw next =
        let other : head r (x / 8) ≡ d.pair.receiver.0 → ⊥ = λ e. not_home (x / 8) sw (e ∙ ap (λ (q : Pair). q.receiver.0) its) in
        let there = ap (λ (q : Pair). behind g q.receiver.0 (level_for s q) (Some (hop (x / 8) (x % 8)))) its ∙ next in
        cond-false _ _ _ (ne_eqb (head r (x / 8)) d.pair.receiver.0 other) ∙ ap on_hop there

    list_on : (i m : ℕ) (k : Hop) → HopIs i k → hops_on g out v level i (suc m) ≡ virtual k ∷ hops_on g out v level (suc i) m
    list_on i m k e = ap (λ o. then_on o (hops_on g out v level (suc i) m)) e

    walks : (n : ℕ) (h : Hop) → Last n h → (j i m : ℕ) (k : Hop) → i + j ≡ n → j < m → HopIs i k → Path (rules s) d (virtual k) (hops_on g out v level i m)
    walks n h last j i zero k sum more e = absurd (omega arith)
    walks n h last zero i (suc m) k sum more e =
        let i_is : i ≡ n = omega arith in
        let same : k ≡ h = same_Some _ _ (sym e ∙ ap (hop_at g out v level) i_is ∙ last.is) in
        let at_v : head r k.channel ≡ v = ap (λ (x : Hop). head r x.channel) same ∙ last.home in
        let over : hop_at g out v level (suc i) ≡ None = ap (behind g v level) e ∙ behind_ends g v level k (into_host g k.channel v pair.1 at_v) in
        let list : hops_on g out v level i (suc m) ≡ virtual k ∷ [] = list_on i m k e ∙ ap (λ l. virtual k ∷ l) (no_more g out v level (suc i) m over) in
        subst (Path (rules s) d (virtual k)) (sym list) (ends (leads_home (virtual k) (ap (head r) (channel_of k (narrow i k e)) ∙ at_v)))
    walks n h last (suc j) i (suc m) k sum more e =
        let b = goes_on n h last i k e (omega arith) in
        let o = b.1.0 in
        let on = subst (λ (z : Hop). (enters_switch r z.channel ≡ true) × (behind g v level (Some z) ≡ Some o)) (sym (hop_again k (narrow i k e))) (b.0, ap (behind g v level) (sym e) ∙ b.1.1) in
        subst (Path (rules s) d (virtual k)) (sym (list_on i m k e))
        (goes (leads_on (virtual k) o on.0 on.1) (walks n h last j (suc i) m o (omega arith) (omega arith) b.1.1))

    pub its_path : Path (rules s) d (8 * out) (path_of s d)
    its_path =
        let l = last_hop in
        let q : path_of s d ≡ hops_on g out v level 0 (channel_count r) = ap (path s) its ∙ path_is in
        let first : virtual (hop out 0) ≡ 8 * out = omega arith in
        subst (λ x. Path (rules s) d x (path_of s d)) first (subst (Path (rules s) d (virtual (hop out 0))) (sym q) (walks l.0 l.1 l.2 l.0 0 (channel_count r) (hop out 0) (omega arith) l.2.short refl))

  pub its_inside : All (λ x. x < queue_count s) (path s p)
  its_inside = subst (All (λ x. x < queue_count s)) (sym path_is) (all_hops g out v level (λ x. x < queue_count s) 0 (channel_count r) (λ j h le e. omega (arith, below j h e, narrow j h e)))

  pub its_once : Once (path s p)
  its_once = let l = last_hop in subst Once (sym path_is) (once g out v level 0 (channel_count r) (λ j k h o le. apart l.0 l.1 l.2 j k h o))

  pub its_follows : (x y : ℕ) → Next x y (path s p) → IsFollowedBy g s.levels x y
  its_follows x y next =
      let b = next_hops g out v level x y 0 (channel_count r) (subst (Next x y) path_is next) in
      record { sender = u; receiver = v; place = b.0; one = b.1; other = b.2; pair = pair; uses = (out, out_leaves, b.3); then = (out, out_leaves, b.4); from = b.5; to = b.6 }

-- a sound plan routes every packet
pub routed : {s : Setup} → Good s → 1 ≤ s.depth → Routed (rules s) (queue_count s) (path_of s)
routed {s = s} good deep = record {
  roomy = λ x. deep;
  path = λ d x e.
      let pair = starts_pair s d x e in
      let o = out good d.pair pair in
      let first = sym (pair_starts s d o pair (out_leaves good d.pair pair)) ∙ e in
      let same : 8 * o ≡ x = cc in
      subst (λ y. Path (rules s) d y (path_of s d)) same (its_path good d.pair pair d refl);
  within = λ d x e. its_inside good d.pair (starts_pair s d x e);
  once = λ d x e. its_once good d.pair (starts_pair s d x e);
  free = λ at len ring. good.sound.no_ring at len (record { some = ring.some; steps = λ i l. follow (at i) (at (i + 1)) (ring.steps i l); closes = follow (at (len - 1)) (at 0) ring.closes; apart = ring.apart });
}
  where
    follow : (x y : ℕ) → Followed (rules s) (path_of s) x y → IsFollowedBy s.routes s.levels x y
    follow x y f = its_follows good f.packet.pair (starts_pair s f.packet f.first f.starts) x y f.next
