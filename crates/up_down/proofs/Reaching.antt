-- Ways that go up and then down lead from every node to every other. Assumes nothing.
use Rattle.std.proofs.Common.{◌≡◌, ℕ, zero, suc, ◌<◌, Bool, true, false, not, sym, refl, ap, ◌∙◌, subst, ⊎_elim, arith}
use Rattle.std.proofs.lemmas.Bool.{and_right, both_ways, not_from_true}
use Rattle.rack.specs.declared.rack.Rack.{Rack}
use Rattle.rack.specs.Racks.{node_count, channel_count, head, tail, Host, Switch, Leaving, back}
use Rattle.rack.proofs.Facts.{head_below, ways_back}
use Rattle.up_down.specs.Ways.{Tiers, up, UpDownWay}
use Rattle.up_down.proofs.Climbing.{up_higher, back_down, climbs, out_up}

module _ (r : Rack) (tier : ℕ → ℕ) where
  -- a way, and then a channel that is down
  down_more : (k : ℕ) (down : Bool) (w c : ℕ) → UpDownWay r tier (tail r c) k down w → c < channel_count r → up r tier c ≡ false → UpDownWay r tier (head r c) (suc k) down w
  down_more zero down w c way l e = (c, (l, sym way), and_right down _ e, refl)
  down_more (suc k) down w c way l e = let d = way.0 in (d, way.1, way.2, down_more k (not (up r tier d)) (head r d) c way.3 l e)

  -- a way that only goes down is one that may go up
  any_way : (v k w : ℕ) → UpDownWay r tier v k true w → UpDownWay r tier v k false w
  any_way v zero w way = way
  any_way v (suc k) w way = (way.0, way.1, refl, way.3)

module _ (r : Rack) (root : ℕ) (tier : ℕ → ℕ) (tiers : Tiers r root tier) where
  -- a way down leads from the root to every node
  down_to : (n v : ℕ) → v < node_count r → tier v < n → (k : ℕ) × UpDownWay r tier v k true root
  down_to zero v l h = absurd (omega arith)
  down_to (suc n) v l h =
      ⊎_elim
      (λ (e : v ≡ root). (0, sym e))
      (λ (s : (c : ℕ) × Leaving r v c × (tier (head r c) < tier v)).
      let c = s.0 in
      let b = ways_back r c s.1.0 in
      let up_c = up_higher r tier c (omega (arith, s.2, ap tier s.1.1)) in
      let first = down_to n (head r c) (head_below r c s.1.0) (omega (arith, s.2)) in
      let there = down_more r tier first.0 true root (back c) (subst (λ x. UpDownWay r tier x first.0 true root) (sym b.2) first.1) b.0 (back_down r tier c s.1.0 up_c) in
      (suc first.0, subst (λ x. UpDownWay r tier x (suc first.0) true root) (b.4 ∙ s.1.1) there))
      (climbs r root tier tiers v l)

  -- a way leads from every node to every other
  way_to : (n v w : ℕ) → v < node_count r → w < node_count r → tier w < n → (k : ℕ) × UpDownWay r tier v k false w
  way_to zero v w l m h = absurd (omega arith)
  way_to (suc n) v w l m h =
      ⊎_elim
      (λ (e : w ≡ root).
      let way = down_to (suc (tier v)) v l (omega arith) in
      (way.0, any_way r tier v way.0 w (subst (UpDownWay r tier v way.0 true) (sym e) way.1)))
      (λ (s : (c : ℕ) × Leaving r w c × (tier (head r c) < tier w)).
      let c = s.0 in
      let up_c = up_higher r tier c (omega (arith, s.2, ap tier s.1.1)) in
      let rest = way_to n v (head r c) l (head_below r c s.1.0) (omega (arith, s.2)) in
      (suc rest.0, (c, s.1, refl, subst (λ b. UpDownWay r tier v rest.0 b (head r c)) (sym (not_from_true _ up_c)) rest.1)))
      (climbs r root tier tiers w m)

  module _ (switch : Switch r root) where
    -- behind the channel out of a host a way leads to every node
    pub begun : (u v c : ℕ) → Host r u → v < node_count r → Leaving r u c → (k : ℕ) × UpDownWay r tier v k (not (up r tier c)) (head r c)
    begun u v c host l leaving =
        let way = way_to (suc (tier (head r c))) v (head r c) l (head_below r c leaving.0) (omega arith) in
        (way.0, subst (λ b. UpDownWay r tier v way.0 b (head r c)) (sym (not_from_true _ (out_up r root tier tiers switch u c host leaving))) way.1)

    -- a way that comes down into a host ends there
    pub ended : (v k x : ℕ) → Host r x → UpDownWay r tier v k true x → x ≡ v
    ended v zero x host way = way
    ended v (suc k) x host way = absurd (both_ways _ way.2 (out_up r root tier tiers switch x way.0 host way.1))
