-- Paths that go up and then down arrive. Assumes nothing.
use Rattle.std.proofs.Common.{◌≡◌, ℕ, zero, suc, ◌<◌, true, not, Some, None, Option, sym, refl, subst, ⊎_elim, arith, lt-ltb, eq-eqb}
use Rattle.std.proofs.lemmas.Bool.{and_from, not_from_false}
use Rattle.rack.specs.declared.rack.Rack.{Rack}
use Rattle.rack.specs.Racks.{channel_count, head, tail, Host, Switch, Leaving}
use Rattle.rack.proofs.Facts.{head_below, host_below, host_no_switch, host_or_switch, one_out}
use Rattle.routing.specs.Turns.{turns}
use Rattle.routing.specs.Paths.{Routing, Hop, hop, hop_at, PairOf, Delivered}
use Rattle.routing.proofs.Tests.{enters_yes}
use Rattle.routing.proofs.Hops.{hop_more}
use Rattle.up_down.specs.Ways.{Tiers, up, UpDownWay, BeginsShortest}
use Rattle.up_down.specs.Sources.{Names}
use Rattle.up_down.proofs.Climbing.{into_down}
use Rattle.up_down.proofs.Reaching.{begun, ended}

-- a channel that leaves the switch that another enters is a turn
turns_yes : (r : Rack) (c d : ℕ) → c < channel_count r → Switch r (head r c) → Leaving r (head r c) d → turns r c d ≡ true
turns_yes r c d l switch leaving =
    and_from _ _ (enters_yes r c (head r c) (l, refl, switch)) (and_from _ _ (lt-ltb d (channel_count r) leaving.0) (eq-eqb (tail r d) (head r c) leaving.1))

module _ (r : Rack) (tier : ℕ → ℕ) (v : ℕ) where
  -- behind channel c a way of k channels goes on
  abbrev WayOn : ℕ → ℕ → Type 0
  WayOn c k = UpDownWay r tier v k (not (up r tier c)) (head r c)

  -- where a way goes on, a channel is named, and behind it a shorter one goes on
  named_on :
      (c k : ℕ) (x : Option ℕ) → c < channel_count r → Switch r (head r c) → Host r v → WayOn c k → Names r tier c v x
      → (d : ℕ) × (x ≡ Some d) × Leaving r (head r c) d × ((j : ℕ) × (j < k) × WayOn d j)
  named_on c zero x l switch host way names = absurd (host_no_switch r v host (subst (Switch r) way switch))
  named_on c (suc k) None l switch host way names = absurd (names (head r c) (l, refl, switch) host k way.0 (way.1, way.2, way.3))
  named_on c (suc k) (Some d) l switch host way names =
      let j = names.3.0 in
      let b = subst (λ w. BeginsShortest r tier v (not (up r tier c)) w j d) (sym names.1.1) names.3.1 in
      (d, refl, b.begins.0, (j, omega (arith, b.shortest k way.0 (way.1, way.2, way.3)), b.begins.2))

module _ (g : Routing) (root : ℕ) (tier : ℕ → ℕ) (tiers : Tiers g.rack root tier) (switch : Switch g.rack root) (names : (c v : ℕ) → Names g.rack tier c v (g.next c v)) where
  module _ (c v s : ℕ) (host : Host g.rack v) where
    -- hop i is on a channel behind which a way of k channels goes on
    abbrev At : ℕ → ℕ → Hop → Type 0
    At i k h = (hop_at g c v s i ≡ Some h) × (h.channel < channel_count g.rack) × WayOn g.rack tier v h.channel k

    -- out of a switch the path goes on, with fewer channels ahead
    onwards : (i k : ℕ) (h : Hop) → At i k h → Switch g.rack (head g.rack h.channel) → (j : ℕ) × (o : Hop) × (j < k) × At (suc i) j o
    onwards i k h at sw =
        let on = named_on g.rack tier v h.channel k (g.next h.channel v) at.1 sw host at.2 (names h.channel v) in
        let d = on.0 in
        let enters = enters_yes g.rack h.channel (head g.rack h.channel) (at.1, refl, sw) in
        let next = hop_more g v s c i (suc i) h d (omega arith) at.0 enters on.1 (turns_yes g.rack h.channel d at.1 sw on.2) in
        (on.3.0, hop d (g.lane h.channel d s), on.3.1, (next, on.2.0, on.3.2))

    -- so it ends at the host
    arrives : (n i k : ℕ) (h : Hop) → k < n → At i k h → (j : ℕ) × (o : Hop) × (hop_at g c v s j ≡ Some o) × (o.channel < channel_count g.rack) × (head g.rack o.channel ≡ v)
    arrives zero i k h less at = absurd (omega arith)
    arrives (suc n) i k h less at =
        let x = head g.rack h.channel in
        ⊎_elim
        (λ (e : Host g.rack x).
        let down = not_from_false _ (into_down g.rack root tier tiers switch h.channel at.1 e) in
        (i, h, at.0, at.1, ended g.rack root tier tiers switch v k x e (subst (λ b. UpDownWay g.rack tier v k b x) down at.2)))
        (λ (e : Switch g.rack x). let on = onwards i k h at e in arrives n (suc i) on.0 on.1 (omega (arith, on.2)) on.3)
        (host_or_switch g.rack x (head_below g.rack h.channel at.1))

  -- the packets of every pair arrive
  pub delivered : (u v s : ℕ) → PairOf g.rack u v → Delivered g u v s
  delivered u v s pair =
      let out = one_out g.rack u pair.0 in
      let c = out.0 in
      let way = begun g.rack root tier tiers switch u v c pair.0 (host_below g.rack v pair.1) out.1 in
      let end = arrives c v s pair.1 (suc way.0) 0 way.0 (hop c 0) (omega arith) (refl, out.1.0, way.1) in
      (end.0, (end.1, (c, out.1, end.2), end.3, end.4))
