-- Channels that are up, and the order of the nodes that they follow. Assumes nothing.
use Rattle.std.proofs.Common.{◌≡◌, ℕ, zero, suc, ◌+◌, ◌*◌, ◌<◌, ◌≤◌, true, false, ltb, eqb, ◌&&◌, ◌⊎◌, sym, refl, ap, subst, inl, inr, ⊎_elim, arith}
use Rattle.std.proofs.Math.Nat.{mul_comm}
use Rattle.std.proofs.lemmas.Bool.{cases_lt, cases_Bool, and_parts, and_cases, or_cases, or_parts, or_left, ltb-true, ltb-false, eqb-true, eqb-false, lt-ltb}
use Rattle.std.proofs.lemmas.Nat.{mul-add-lt}
use Rattle.rack.specs.declared.rack.Rack.{Rack}
use Rattle.rack.specs.Racks.{node_count, channel_count, head, tail, Host, Switch, Leaving, back}
use Rattle.rack.proofs.Facts.{tail_below, head_below, ends_differ, host_no_switch, host_below, ways_back}
use Rattle.routing.proofs.Hops.{only_out}
use Rattle.up_down.specs.Ways.{PlainWay, Tiers, up}
use Rattle.up_down.specs.Tables.{order}

-- a numbering of pairs of numbers by the first, and then by the second
pub first_less : (n a x b y : ℕ) → x < n → a < b → a * n + x < b * n + y
first_less n a x b y low less = omega (arith, mul-add-lt a n x b less low, mul_comm n b)

module _ (r : Rack) (tier : ℕ → ℕ) where
  -- a channel to a lower tier is up
  pub up_higher : (c : ℕ) → tier (head r c) < tier (tail r c) → up r tier c ≡ true
  up_higher c l = or_left _ _ (lt-ltb (tier (head r c)) (tier (tail r c)) l)

  -- a channel that is up leads to a node before its own
  pub up_before : (c : ℕ) → c < channel_count r → up r tier c ≡ true → order r tier (head r c) < order r tier (tail r c)
  up_before c l e =
      ⊎_elim
      (λ (h : ltb (tier (head r c)) (tier (tail r c)) ≡ true). first_less (node_count r) _ _ _ _ (head_below r c l) (ltb-true _ _ h))
      (λ (h : eqb (tier (head r c)) (tier (tail r c)) && ltb (head r c) (tail r c) ≡ true).
      let p = and_parts _ _ h in
      let same = eqb-true (tier (head r c)) (tier (tail r c)) p.0 in
      let less = ltb-true (head r c) (tail r c) p.1 in
      rw same (omega arith))
      (or_cases _ _ e)

  -- and one that is not, to a node behind
  pub down_behind : (c : ℕ) → c < channel_count r → up r tier c ≡ false → order r tier (tail r c) < order r tier (head r c)
  down_behind c l e =
      let p = or_parts _ _ e in
      let high = ltb-false (tier (head r c)) (tier (tail r c)) p.0 in
      ⊎_elim
      (λ (h : tier (tail r c) < tier (head r c)). first_less (node_count r) _ _ _ _ (tail_below r c l) h)
      (λ (h : tier (head r c) ≤ tier (tail r c)).
      let same : tier (tail r c) ≡ tier (head r c) = omega arith in
      ⊎_elim
      (λ (f : eqb (tier (head r c)) (tier (tail r c)) ≡ false). absurd (eqb-false _ _ f (sym same)))
      (λ (f : ltb (head r c) (tail r c) ≡ false). let after = ltb-false (head r c) (tail r c) f in let apart = ends_differ r c l in rw same (omega arith))
      (and_cases _ _ p.1))
      (cases_lt (tier (tail r c)) (tier (head r c)))

  -- the way back of a channel that is up is down
  pub back_down : (c : ℕ) → c < channel_count r → up r tier c ≡ true → up r tier (back c) ≡ false
  back_down c l e =
      let b = ways_back r c l in
      ⊎_elim
      (λ (h : up r tier (back c) ≡ true).
      let one = up_before c l e in
      let other = up_before (back c) b.0 h in
      absurd (omega (arith, ap (order r tier) b.2, ap (order r tier) b.4)))
      (λ h. h)
      (cases_Bool (up r tier (back c)))

module _ (r : Rack) (root : ℕ) (tier : ℕ → ℕ) (tiers : Tiers r root tier) where
  -- a shortest way to the root begins with a channel to a lower tier
  first_up : (n w : ℕ) → n ≡ tier w → PlainWay r root n w → (w ≡ root) ⊎ ((c : ℕ) × Leaving r w c × (tier (head r c) < tier w))
  first_up zero w e way = inl way
  first_up (suc n) w e way =
      let c = way.0 in
      inr (c, way.1, omega (arith, (tiers (head r c) (head_below r c way.1.0)).1 n way.2))

  -- from every node but the root a channel leads to a lower tier
  pub climbs : (w : ℕ) → w < node_count r → (w ≡ root) ⊎ ((c : ℕ) × Leaving r w c × (tier (head r c) < tier w))
  climbs w l = first_up (tier w) w refl (tiers w l).0

  -- the channel out of a host is up
  pub out_up : Switch r root → (u c : ℕ) → Host r u → Leaving r u c → up r tier c ≡ true
  out_up switch u c host leaving =
      ⊎_elim
      (λ (e : u ≡ root). absurd (host_no_switch r root (subst (Host r) e host) switch))
      (λ (s : (d : ℕ) × Leaving r u d × (tier (head r d) < tier u)).
      subst (λ x. up r tier x ≡ true) (only_out r u s.0 c host s.1 leaving) (up_higher r tier s.0 (omega (arith, s.2, ap tier s.1.1))))
      (climbs u (host_below r u host))

  -- and the one into it is down
  pub into_down : Switch r root → (c : ℕ) → c < channel_count r → Host r (head r c) → up r tier c ≡ false
  into_down switch c l host =
      let b = ways_back r c l in
      subst (λ x. up r tier x ≡ false) b.1 (back_down r tier (back c) b.0 (out_up switch (head r c) (back c) host (b.0, b.2)))
