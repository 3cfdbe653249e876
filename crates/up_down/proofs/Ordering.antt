-- Paths that go up and then down make no ring. Assumes nothing.
use Rattle.std.proofs.Common.{◌≡◌, ℕ, zero, suc, ◌+◌, ◌-◌, ◌/◌, ◌<◌, ◌≤◌, true, false, cond, not, ◌&&◌, List, sym, ap, ◌∙◌, subst, ⊎_elim, arith}
use Rattle.std.proofs.lemmas.Bool.{cases_eq, cases_Bool, cond-true, cond-false, and_cases, not-false, both_ways}
use Rattle.std.proofs.lemmas.Option.{same_Some}
use Rattle.rack.specs.declared.rack.Rack.{Rack}
use Rattle.rack.specs.Racks.{node_count, channel_count, head, tail}
use Rattle.rack.proofs.Facts.{head_below}
use Rattle.ranking.specs.Graphs.{NoRing}
use Rattle.ranking.proofs.Chains.{no_ring_from_rise}
use Rattle.routing.specs.Paths.{Routing, Hop, hop_at, PairOf, OnPath}
use Rattle.routing.proofs.Hops.{came, from_first}
use Rattle.checking.specs.Plans.{level_at, On, IsFollowedBy}
use Rattle.up_down.specs.Ways.{up}
use Rattle.up_down.specs.Sources.{Names}
use Rattle.up_down.specs.Tables.{order}
use Rattle.up_down.proofs.Climbing.{up_before, down_behind}

-- the first n values of a function are all at most some number
bounded : (f : ℕ → ℕ) (n : ℕ) → (m : ℕ) × ((i : ℕ) → i < n → f i ≤ m)
bounded f zero = (0, λ i l. absurd (omega arith))
bounded f (suc n) =
    let m = bounded f n in
    (m.0 + f n, λ i l. ⊎_elim (λ (e : i ≡ n). omega (arith, ap f e)) (λ (other : i ≡ n → ⊥). omega (arith, m.1 i (omega arith))) (cases_eq i n))

-- channel d leaves where channel c enters, and is not up where c is down
record Follows (r : Rack) (tier : ℕ → ℕ) (c d : ℕ) : Type 0 where
  pub below : c < channel_count r
  pub next : d < channel_count r
  pub leaves : tail r d ≡ head r c
  pub calm : not (up r tier c) && up r tier d ≡ false

module _ (r : Rack) (tier : ℕ → ℕ) (top : ℕ) (within : (w : ℕ) → w < node_count r → order r tier w ≤ top) where
  -- a number of channels: those that are up come first, that with the last head in the order of the nodes before all, and then the others, that with the first head before all
  abbrev number : ℕ → ℕ
  number c = cond (up r tier c) (top - order r tier (head r c)) (top + 1 + order r tier (head r c))

  number_up : (c : ℕ) → up r tier c ≡ true → number c ≡ top - order r tier (head r c)
  number_up c e = cond-true _ _ _ e

  number_down : (c : ℕ) → up r tier c ≡ false → number c ≡ top + 1 + order r tier (head r c)
  number_down c e = cond-false _ _ _ e

  -- it rises along such steps
  rises : (c d : ℕ) → Follows r tier c d → number c < number d
  rises c d f =
      let low = within (head r c) (head_below r c f.below) in
      let same = ap (order r tier) f.leaves in
      ⊎_elim
      (λ (a : up r tier c ≡ true).
      ⊎_elim
      (λ (b : up r tier d ≡ true). omega (arith, number_up c a, number_up d b, up_before r tier d f.next b))
      (λ (b : up r tier d ≡ false). omega (arith, number_up c a, number_down d b))
      (cases_Bool (up r tier d)))
      (λ (a : up r tier c ≡ false).
      ⊎_elim
      (λ (n : not (up r tier c) ≡ false). absurd (both_ways _ a (not-false _ n)))
      (λ (b : up r tier d ≡ false). omega (arith, number_down c a, number_down d b, down_behind r tier d f.next b))
      (and_cases _ _ f.calm))
      (cases_Bool (up r tier c))

module _ (g : Routing) (tier : ℕ → ℕ) (names : (c v : ℕ) → Names g.rack tier c v (g.next c v)) where
  -- a hop and the next of a path follow one another so
  followed : (u v s i : ℕ) (h o : Hop) → PairOf g.rack u v → OnPath g u v s i h → OnPath g u v s (suc i) o → Follows g.rack tier h.channel o.channel
  followed u v s i h o pair on then =
      let c = on.0 in
      let later = from_first g u v s c (suc i) o pair.0 on.1 then in
      let b = came g v s (hop_at g c v s i) o later in
      let k = b.0.channel in
      let d = b.3.0 in
      let named = subst (Names g.rack tier k v) b.3.1 (names k v) in
      let begins = named.3.1.begins in
      let same : k ≡ h.channel = ap (λ (x : Hop). x.channel) (same_Some _ _ (sym b.1 ∙ on.2)) in
      let to : d ≡ o.channel = ap (λ (x : Hop). x.channel) (sym b.3.3) in
      subst (λ x. Follows g.rack tier x o.channel) same
      (subst (Follows g.rack tier k) to
      (record { below = named.1.0; next = begins.0.0; leaves = begins.0.1 ∙ sym named.1.1; calm = begins.1 }))

  -- so down stays down
  pub stays_down : (u v s i : ℕ) (h o : Hop) → PairOf g.rack u v → OnPath g u v s i h → OnPath g u v s (suc i) o → up g.rack tier h.channel ≡ false → up g.rack tier o.channel ≡ false
  stays_down u v s i h o pair on then falls =
      let calm = (followed u v s i h o pair on then).calm in
      (λ j. not (sym falls j) && up g.rack tier o.channel) ∙ calm

  module _ (levels : List ℕ) (zero_lane : (u v i : ℕ) (h : Hop) → PairOf g.rack u v → On g levels u v i h → h.lane ≡ 0) where
    -- no virtual channels follow one another in a ring
    pub no_ring : NoRing (IsFollowedBy g levels)
    no_ring =
        let m = bounded (order g.rack tier) (node_count g.rack) in
        no_ring_from_rise (IsFollowedBy g levels) (λ x. number g.rack tier m.0 m.1 (x / 8))
        (λ x y f.
        let s = level_at g.rack levels f.sender f.receiver in
        let here = zero_lane f.sender f.receiver f.place f.one f.pair f.uses in
        let there = zero_lane f.sender f.receiver (suc f.place) f.other f.pair f.then in
        let c : x / 8 ≡ f.one.channel = omega (arith, f.from, here) in
        let d : y / 8 ≡ f.other.channel = omega (arith, f.to, there) in
        rw (c, d) (rises g.rack tier m.0 m.1 f.one.channel f.other.channel (followed f.sender f.receiver s f.place f.one f.other f.pair f.uses f.then)))
