-- What the builder builds, the check accepts. Assumes nothing.
use Rattle.std.proofs.Common.{◌≡◌, ℕ, zero, suc, ◌+◌, ◌-◌, ◌<◌, ◌≤◌, true, false, ◌⊎◌, List, length, get_or, IfErr, Some, Ok, Err, Option, Result, sym, refl, ap, ◌∙◌, subst, inl, inr, ⊎_elim, arith}
use Rattle.std.proofs.lemmas.Bool.{cases_eq, cases_lt}
use Rattle.rack.specs.declared.rack.Rack.{Rack}
use Rattle.rack.specs.Racks.{channel_count, head, tail, Host, Switch, Leaving}
use Rattle.rack.proofs.Facts.{host_no_switch}
use Rattle.routing.specs.Sources.{enters_switch}
use Rattle.routing.specs.Turns.{turns, stored_lane}
use Rattle.routing.specs.Paths.{Routing, routing, Hop, hop, PairOf, hop_at, OnPath}
use Rattle.routing.proofs.Tests.{enters_no}
use Rattle.std.proofs.lemmas.Option.{same_Some}
use Rattle.routing.proofs.Hops.{came, hop_more, hop_last, from_first}
use Rattle.builder.specs.Method.{alone, PathOf, tables}
use Rattle.builder.specs.Laws.{TurnsNumbered, EndsKeep0}
use Rattle.routing.specs.Plans.{OneToEight}
use Rattle.checking.specs.Plans.{level_at, On, FinePair, AllFine}
use Rattle.checking.specs.Plans as plans
use Rattle.checking.specs.declared.acceptance.Acceptance.{Acceptance}
use Rattle.checking.specs.declared.fault.CheckFault.{CheckFault}
use Rattle.checking.specs.declared.fault.CheckFault.TheVariants.{Lanes, Tables, Level, Walk, Ring, Memory}
use Rattle.checking.specs.Answers.{TablesAt, Starts, Checked, Accepted}
use Rattle.planning.specs.Plans.{OnlyShort}

module _ (r : Rack) (route : ℕ → ℕ → Option ℕ) (lanes levels : List ℕ) where
  abbrev pub full : Routing
  full = routing r route (stored_lane r lanes)

  abbrev bare : Routing
  bare = alone r route

  -- lanes do not lead a path elsewhere
  to_full : (c v s i : ℕ) (h : Hop) → hop_at bare c v 0 i ≡ Some h → (k : Hop) × (hop_at full c v s i ≡ Some k) × (k.channel ≡ h.channel)
  to_full c v s zero h e = (hop c 0, refl, ap (λ (x : Hop). x.channel) (same_Some _ _ e))
  to_full c v s (suc i) h e =
      let b = came bare v 0 (hop_at bare c v 0 i) h e in
      let t = b.3 in
      let d = t.0 in
      let k = to_full c v s i b.0 b.1 in
      let n : suc i ≡ i + 1 = omega arith in (
        hop d (stored_lane r lanes k.0.channel d s),
        hop_more full v s c i (suc i) k.0 d n k.1 (subst (λ m. enters_switch r m ≡ true) (sym k.2) b.2) (subst (λ m. route m v ≡ Some d) (sym k.2) t.1) (subst (λ m. turns r m d ≡ true) (sym k.2) t.2),
        sym (ap (λ (x : Hop). x.channel) t.3),
      )

  to_bare : (c v s i : ℕ) (h : Hop) → hop_at full c v s i ≡ Some h → hop_at bare c v 0 i ≡ Some (hop h.channel 0)
  to_bare c v s zero h e = ap (λ m. Some (hop m 0)) (ap (λ (x : Hop). x.channel) (same_Some _ _ e))
  to_bare c v s (suc i) h e =
      let b = came full v s (hop_at full c v s i) h e in
      let t = b.3 in
      let d = t.0 in
      let k = to_bare c v s i b.0 b.1 in
      let n : suc i ≡ i + 1 = omega arith in
      hop_more bare v 0 c i (suc i) (hop b.0.channel 0) d n k b.2 t.1 t.2 ∙ ap (λ m. Some (hop m 0)) (sym (ap (λ (x : Hop). x.channel) t.3))

  module _ (count : ℕ) (range : OneToEight count) (rises : TurnsNumbered r route count (tables lanes levels)) (ends : EndsKeep0 r lanes) (u v : ℕ) (pair : PairOf r u v) where
    abbrev s : ℕ
    s = level_at r levels u v

    abbrev path : List ℕ
    path = (rises.paths u v pair).0

    abbrev of : PathOf r route u v path
    of = (rises.paths u v pair).1

    abbrev first : ℕ
    first = of.ends.1.0

    abbrev leaving : Leaving r u first
    leaving = of.ends.1.1

    at_full : (i : ℕ) (h : Hop) → OnPath full u v s i h → hop_at full first v s i ≡ Some h
    at_full i h on = from_first full u v s first i h pair.0 leaving on

    at_bare : (i : ℕ) (h : Hop) → OnPath bare u v 0 i h → hop_at bare first v 0 i ≡ Some h
    at_bare i h on = from_first bare u v 0 first i h pair.0 leaving on

    last_ends : enters_switch r of.ends.0.channel ≡ false
    last_ends = enters_no r of.ends.0.channel (λ x e. host_no_switch r v pair.1 (subst (λ n. get_or r.nodes.items n 0 ≡ 2) (sym e.1 ∙ of.ends.3) e.2))

    within : (i : ℕ) (h : Hop) → OnPath full u v s i h → i < length path
    within i h on =
        ⊎_elim
        (λ (l : i < length path). l)
        (λ (l : length path ≤ i). absurd (hop_last bare v 0 first (length path - 1) i of.ends.0 (hop h.channel 0) (at_bare (length path - 1) of.ends.0 of.ends.1) last_ends (let z = of.some in omega arith) (to_bare first v s i h (at_full i h on))))
        (cases_lt i (length path))

    -- the channel of a hop is that of the path
    channel_at : (i : ℕ) (h : Hop) → OnPath full u v s i h → h.channel ≡ get_or path i 0
    channel_at i h on = ap (λ (x : Hop). x.channel) (same_Some _ _ (sym (to_bare first v s i h (at_full i h on)) ∙ at_bare i _ (of.hops i (within i h on))))

    -- the last channel enters the receiver
    last_host : Host r (head r (get_or path (length path - 1) 0))
    last_host =
        let e : of.ends.0.channel ≡ get_or path (length path - 1) 0 = ap (λ (x : Hop). x.channel) (same_Some _ _ (sym (at_bare (length path - 1) of.ends.0 of.ends.1) ∙ at_bare (length path - 1) _ (of.hops (length path - 1) (let z = of.some in omega arith)))) in
        subst (Host r) (sym of.ends.3 ∙ ap (head r) e) pair.1

    -- the lane of a hop that is not the first
    lane_at : (i : ℕ) (o : Hop) → OnPath full u v s (suc i) o → (turns r (get_or path i 0) (get_or path (i + 1) 0) ≡ true) × (o.lane ≡ stored_lane r lanes (get_or path i 0) (get_or path (i + 1) 0) s)
    lane_at i o on =
        let b = came full v s (hop_at full first v s i) o (at_full (suc i) o on) in
        let t = b.3 in
        let ci : b.0.channel ≡ get_or path i 0 = channel_at i b.0 (first, leaving, b.1) in
        let n : suc i ≡ i + 1 = omega arith in
        let di : t.0 ≡ get_or path (i + 1) 0 = sym (ap (λ (x : Hop). x.channel) t.3) ∙ channel_at (suc i) o on ∙ ap (λ m. get_or path m 0) n in (
          subst (λ m. turns r m (get_or path (i + 1) 0) ≡ true) ci (subst (λ m. turns r b.0.channel m ≡ true) di t.2),
          ap (λ (x : Hop). x.lane) t.3 ∙ ap (λ m. stored_lane r lanes m t.0 s) ci ∙ ap (λ m. stored_lane r lanes (get_or path i 0) m s) di,
        )

    first_is : get_or path 0 0 ≡ first
    first_is = sym (ap (λ (x : Hop). x.channel) (same_Some _ _ (at_bare 0 _ (of.hops 0 of.some))))

    first_host : Host r (tail r (get_or path 0 0))
    first_host = subst (λ m. Host r (tail r m)) (sym first_is) (subst (Host r) (sym leaving.1) pair.0)

    -- hop i + 1 has lane i between the first and the last, and lane 0 there
    lane_is : (i : ℕ) (o : Hop) → OnPath full u v s (suc i) o → ((o.lane ≡ i) × (i + 2 < length path)) ⊎ ((o.lane ≡ 0) × ((i ≡ 0) ⊎ (i + 2 ≡ length path)))
    lane_is i o on =
        let l = within (suc i) o on in
        let a = lane_at i o on in
        let low : s < 16 = rises.levels u v pair in
        ⊎_elim
        (λ (z : i ≡ 0). inr (a.1 ∙ ends (get_or path i 0) (get_or path (i + 1) 0) s a.0 (inl (subst (λ m. Host r (tail r (get_or path m 0))) (sym z) first_host)) low, inl z))
        (λ (nz : i ≡ 0 → ⊥).
        ⊎_elim
        (λ (e : i + 2 ≡ length path).
        let n : length path - 1 ≡ i + 1 = omega arith in
        inr (a.1 ∙ ends (get_or path i 0) (get_or path (i + 1) 0) s a.0 (inr (subst (λ m. Host r (head r (get_or path m 0))) n last_host)) low, inr e))
        (λ (ne : i + 2 ≡ length path → ⊥). inl (a.1 ∙ rises.lanes u v path pair of i (omega arith, omega arith), omega arith))
        (cases_eq (i + 2) (length path)))
        (cases_eq i 0)

    pub built_fine : FinePair full levels count u v
    built_fine =
        let k = to_full first v s (length path - 1) of.ends.0 (at_bare (length path - 1) of.ends.0 of.ends.1) in
        let short = (rises.paths u v pair).2 in
        record {
          level = let l = rises.levels u v pair in omega arith;
          arrives = (length path - 1, (k.0, (first, leaving, k.1), subst (λ m. m < channel_count r) (sym k.2) of.ends.2, ap (head r) k.2 ∙ of.ends.3));
          low = λ i h on. low_at i h on short;
        }
      where
        low_at : (i : ℕ) (h : Hop) → OnPath full u v s i h → length path ≤ count + 2 → h.lane < count
        low_at zero h on short = let e : 0 ≡ h.lane = ap (λ (x : Hop). x.lane) (same_Some _ _ (at_full 0 h on)) in omega (arith, range)
        low_at (suc i) h on short = ⊎_elim (λ (x : (h.lane ≡ i) × (i + 2 < length path)). omega (arith, x.0, x.1)) (λ (x : (h.lane ≡ 0) × ((i ≡ 0) ⊎ (i + 2 ≡ length path))). omega (arith, x.0, range)) (lane_is i h on)

    pub built_rises : (i : ℕ) (h o : Hop) → OnPath full u v s i h → OnPath full u v s (suc i) o → Switch r (tail r h.channel) → Switch r (head r o.channel) → h.lane < o.lane
    built_rises zero h o on then from_switch to_switch = absurd (host_no_switch r (tail r (get_or path 0 0)) first_host (subst (λ m. Switch r (tail r m)) (channel_at 0 h on) from_switch))
    built_rises (suc i) h o on then from_switch to_switch =
        ⊎_elim
        (λ (x : (o.lane ≡ suc i) × (suc i + 2 < length path)).
        ⊎_elim (λ (y : (h.lane ≡ i) × (i + 2 < length path)). omega (arith, x.0, y.0)) (λ (y : (h.lane ≡ 0) × ((i ≡ 0) ⊎ (i + 2 ≡ length path))). omega (arith, x.0, y.0)) (lane_is i h on))
        (λ (x : (o.lane ≡ 0) × ((suc i ≡ 0) ⊎ (suc i + 2 ≡ length path))).
        absurd (⊎_elim
        (λ (z : suc i ≡ 0). omega arith)
        (λ (e : suc i + 2 ≡ length path).
        let n : length path - 1 ≡ suc (suc i) = omega arith in
        host_no_switch r (head r (get_or path (suc (suc i)) 0)) (subst (λ m. Host r (head r (get_or path m 0))) n last_host) (subst (λ m. Switch r (head r m)) (channel_at (suc (suc i)) o then) to_switch))
        x.1))
        (lane_is (suc i) o then)

-- a fault other than want of memory is no acceptance
never : (f : CheckFault) → (f ≡ Memory → ⊥) → Accepted (Err f) → ⊥
never f other (inl e) = let z : ◌≡◌ {A = ℕ} 0 1 = cc in omega arith
never f other (inr e) = other (err_same f Memory e)
  where
    err_same : (x y : CheckFault) → ◌≡◌ {A = Result Acceptance CheckFault} (Err x) (Err y) → x ≡ y
    err_same x y e = cc

module _ (r : Rack) (route : ℕ → ℕ → Option ℕ) (lanes levels : List ℕ) (count : ℕ) (range : OneToEight count) (rises : TurnsNumbered r route count (tables lanes levels)) (ends : EndsKeep0 r lanes) where
  pub all_fine : AllFine (full r route lanes levels) levels count
  all_fine u v pair = built_fine r route lanes levels count range rises ends u v pair

  pub all_rise : plans.Rises (full r route lanes levels) levels
  all_rise u v i h o pair on then one other = built_rises r route lanes levels count range rises ends u v pair i h o on then one.0 other.1

  -- the check stops only at short tables, or for want of memory
  pub only_short :
      (before after : TablesAt) (a : Result Acceptance CheckFault) → Checked (full r route lanes levels) levels count before after a → (Starts (full r route lanes levels) levels count before → Accepted a) →
      IfErr a (OnlyShort r (length levels) before)
  only_short before after (Ok x) h accepts = tt
  only_short before after (Err Lanes) h accepts = h.0 range
  only_short before after (Err Tables) h accepts = λ long. h.1 (range, long)
  only_short before after (Err (Level p)) h accepts = never (Level p) (λ e. let z : ◌≡◌ {A = ℕ} 0 1 = cc in omega arith) (accepts h.0)
  only_short before after (Err (Walk f)) h accepts = never (Walk f) (λ e. let z : ◌≡◌ {A = ℕ} 0 1 = cc in omega arith) (accepts h.0)
  only_short before after (Err (Ring n)) h accepts = never (Ring n) (λ e. let z : ◌≡◌ {A = ℕ} 0 1 = cc in omega arith) (accepts h.0)
  only_short before after (Err Memory) h accepts = tt
