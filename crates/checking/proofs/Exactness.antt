-- The marks of all pairs are the dependencies of the plan. Assumes nothing.
use Rattle.std.proofs.Common.{◌≡◌, ℕ, suc, ◌+◌, ◌*◌, ◌/◌, ◌%◌, ◌<◌, ◌≤◌, true, ◌↔◌, List, get_or, sym, refl, ap, ◌∙◌, subst, arith, eqb-true}
use Rattle.std.proofs.lemmas.Option.{same_Some}
use Rattle.std.proofs.lemmas.Bool.{cond-true}
use Rattle.rack.specs.Racks.{channel_count, head, tail, tail_port, LeavingBy}
use Rattle.rack.proofs.Facts.{tail_port_within, same_port}
use Rattle.ranking.specs.Graphs.{Ranked, Ringed}
use Rattle.ranking.proofs.Chains.{no_ring_under, ring_under, rank_same}
use Rattle.routing.specs.Sources.{enters_switch}
use Rattle.routing.specs.Turns.{turns, turn_place, turn_count}
use Rattle.routing.specs.Paths.{Routing, Hop, PairOf, hop_at}
use Rattle.routing.proofs.Tests.{both_snd, turns_below, turns_enters, entered}
use Rattle.routing.proofs.Hops.{came, hop_below, from_first}
use Rattle.checking.specs.Words.{bit, word_of, FollowedBy}
use Rattle.checking.specs.Plans.{level_at, On, virtual, IsFollowedBy, AllFine, Exact}
use Rattle.checking.specs.Marks.{AllSay}
use Rattle.checking.proofs.Scans.{followed_turns}

module _ (g : Routing) (levels : List ℕ) (lanes : ℕ) (few : lanes ≤ 8) (fine : AllFine g levels lanes) where
  -- a hop and the next of a pair's path: channels, a turn, lanes
  pub record Turned (h o : Hop) : Type 0 where
    pub below : h.channel < channel_count g.rack
    pub next : o.channel < channel_count g.rack
    pub turn : turns g.rack h.channel o.channel ≡ true
    pub leaves : tail g.rack o.channel ≡ head g.rack h.channel
    pub low : h.lane < 8
    pub high : o.lane < 8

  pub turned : (u v i : ℕ) (h o : Hop) → PairOf g.rack u v → On g levels u v i h → On g levels u v (suc i) o → Turned h o
  turned u v i h o pair on then =
      let s = level_at g.rack levels u v in
      let c = on.0 in
      let later = from_first g u v s c (suc i) o pair.0 on.1 then in
      let b = came g v s (hop_at g c v s i) o later in
      let same : b.0 ≡ h = same_Some _ _ (sym b.1 ∙ on.2) in
      let t = b.3 in
      let to : o.channel ≡ t.0 = ap (λ (x : Hop). x.channel) t.3 in
      let turn = subst (λ m. turns g.rack h.channel m ≡ true) (sym to) (subst (λ (x : Hop). turns g.rack x.channel t.0 ≡ true) same t.2) in
      record {
        below = hop_below g v s c on.1.0 i h on.2;
        next = turns_below g.rack h.channel o.channel turn;
        turn = turn;
        leaves = eqb-true (tail g.rack o.channel) (head g.rack h.channel) (both_snd _ _ (both_snd (enters_switch g.rack h.channel) _ turn));
        low = let l = (fine u v pair).low i h on in omega arith;
        high = let l = (fine u v pair).low (suc i) o then in omega arith;
      }

  said : (c p v q : ℕ) → 1 ≤ p → p ≤ 36 → v < 8 → q < 8 → AllSay g levels (turn_place c p) (8 * v + q) → (d : ℕ) × LeavingBy g.rack (head g.rack c) p d × IsFollowedBy g levels (8 * c + v) (8 * d + q)
  said c p v q p1 p36 lv lq all =
      let a = all.0 in
      let b = all.1 in
      let pair = all.2 in
      let y = all.3 in
      let h = y.1 in
      let o = y.2 in
      let t = turned a b y.0 h o pair y.3 y.4 in
      let ports = tail_port_within g.rack o.channel t.next in
      let place = y.5.0 in
      let bits = y.5.1 in
      let ce : c ≡ h.channel = omega (arith, place, ports.0, ports.1) in
      let pe : p ≡ tail_port g.rack o.channel = omega (arith, place, ports.0, ports.1) in
      let ve : v ≡ h.lane = omega (arith, bits, t.low, t.high) in
      let qe : q ≡ o.lane = omega (arith, bits, t.low, t.high) in (
        o.channel,
        ((t.next, t.leaves ∙ ap (head g.rack) (sym ce)), sym pe),
        record {
          sender = a;
          receiver = b;
          place = y.0;
          one = h;
          other = o;
          pair = pair;
          uses = y.3;
          then = y.4;
          from = omega (arith, ce, ve);
          to = omega (arith, qe);
        },
      )

  says : (c p v q d : ℕ) → v < 8 → q < 8 → LeavingBy g.rack (head g.rack c) p d → IsFollowedBy g levels (8 * c + v) (8 * d + q) → AllSay g levels (turn_place c p) (8 * v + q)
  says c p v q d lv lq leaving f =
      let t = turned f.sender f.receiver f.place f.one f.other f.pair f.uses f.then in
      let ce : f.one.channel ≡ c = omega (arith, f.from, t.low) in
      let ve : f.one.lane ≡ v = omega (arith, f.from, t.low) in
      let de : f.other.channel ≡ d = omega (arith, f.to, t.high) in
      let qe : f.other.lane ≡ q = omega (arith, f.to, t.high) in
      let pe : tail_port g.rack f.other.channel ≡ p = ap (tail_port g.rack) de ∙ leaving.1 in
      (f.sender, f.receiver, f.pair, (f.place, f.one, f.other, f.uses, f.then, (omega (arith, ce, pe), omega (arith, ve, qe))))

  module _ (table : List ℕ) (marked : (k b : ℕ) → k < turn_count (channel_count g.rack) → (bit (get_or table k 0) b ≡ true ↔ AllSay g levels k b)) where
    pub exact : Exact g levels table
    exact c p v q lc p1 p36 lv lq =
        let m = marked (turn_place c p) (8 * v + q) (omega arith) in
        (λ h. said c p v q p1 p36 lv lq (m.0 h), λ f. m.1 (says c p v q f.0 lv lq f.1 f.2))

    pub followed_to : (x y : ℕ) → FollowedBy g.rack table x y → IsFollowedBy g levels x y
    followed_to x y f =
        let c = x / 8 in
        let d = y / 8 in
        let t = followed_turns g.rack table x y f in
        let sw = entered g.rack c (turns_enters g.rack c d t) in
        let ld = turns_below g.rack c d t in
        let ports = tail_port_within g.rack d ld in
        let leaves = eqb-true (tail g.rack d) (head g.rack c) (both_snd _ _ (both_snd (enters_switch g.rack c) _ t)) in
        let word : word_of g.rack table c d ≡ get_or table (turn_place c (tail_port g.rack d)) 0 = cond-true _ _ _ t in
        let found = (exact c (tail_port g.rack d) (x % 8) (y % 8) sw.0 ports.0 ports.1 (omega arith) (omega arith)).0 (subst (λ w. bit w (8 * (x % 8) + y % 8) ≡ true) word f.2) in
        let same : found.0 ≡ d = same_port g.rack (head g.rack c) (tail_port g.rack d) found.0 d found.1 ((ld, leaves), refl) in
        let xe : 8 * c + x % 8 ≡ x = omega arith in
        let ye : 8 * found.0 + y % 8 ≡ y = omega (arith, same) in
        subst (λ n. IsFollowedBy g levels n y) xe (subst (IsFollowedBy g levels (8 * c + x % 8)) ye found.2)

    pub followed_from : (x y : ℕ) → IsFollowedBy g levels x y → FollowedBy g.rack table x y
    followed_from x y f =
        let t = turned f.sender f.receiver f.place f.one f.other f.pair f.uses f.then in
        let c = f.one.channel in
        let d = f.other.channel in
        let xc : x / 8 ≡ c = omega (arith, f.from, t.low) in
        let xv : x % 8 ≡ f.one.lane = omega (arith, f.from, t.low) in
        let yd : y / 8 ≡ d = omega (arith, f.to, t.high) in
        let yq : y % 8 ≡ f.other.lane = omega (arith, f.to, t.high) in
        let ports = tail_port_within g.rack d t.next in
        let set = (exact c (tail_port g.rack d) f.one.lane f.other.lane t.below ports.0 ports.1 t.low t.high).1 (d, ((t.next, t.leaves), refl), subst (λ n. IsFollowedBy g levels n (virtual f.other)) f.from (subst (IsFollowedBy g levels x) f.to f)) in
        let word : word_of g.rack table c d ≡ get_or table (turn_place c (tail_port g.rack d)) 0 = cond-true _ _ _ t.turn in (
          omega (arith, f.from, t.low, t.below),
          omega (arith, f.to, t.high, t.next),
          rw (xc, xv, yd, yq) (subst (λ w. bit w (8 * f.one.lane + f.other.lane) ≡ true) (sym word) set),
        )

    pub ranked_to : (n top : ℕ) (s t : List ℕ) → Ranked (FollowedBy g.rack table) n top s t → Ranked (IsFollowedBy g levels) n top s t
    ranked_to n top s t r =
        record {
          free = no_ring_under (IsFollowedBy g levels) (FollowedBy g.rack table) followed_from r.free;
          ranks = λ y l. rank_same (FollowedBy g.rack table) (IsFollowedBy g levels) followed_to followed_from y (get_or t y 0) (r.ranks y l);
          most = r.most;
          peak = r.peak;
          none = r.none;
          rest = r.rest;
        }

    pub ringed_to : (n len : ℕ) (s t u v : List ℕ) → Ringed (FollowedBy g.rack table) n len s t u v → Ringed (IsFollowedBy g levels) n len s t u v
    ringed_to n len s t u v r =
        record {
          ring = ring_under (FollowedBy g.rack table) (IsFollowedBy g levels) followed_to (λ i. get_or v i 0) len r.ring;
          short = r.short;
          ring_rest = r.ring_rest;
          zeros = r.zeros;
          rest = r.rest;
        }
