-- The path of a pair by the source alone. Assumes nothing.
use Rattle.std.proofs.Common.{◌≡◌, ℕ, zero, suc, ◌+◌, ◌-◌, ◌<◌, true, false, ◌⊎◌, List, [], ◌∷◌, length, get_or, Some, Option, sym, refl, ap, ◌∙◌, subst, ⊎_elim, arith}
use Rattle.std.proofs.lemmas.Option.{same_Some}
use Rattle.std.proofs.lemmas.List.{ext_get_or}
use Rattle.std.proofs.lemmas.Bool.{cases_order}
use Rattle.rack.specs.declared.rack.Rack.{Rack}
use Rattle.rack.specs.Racks.{Leaving}
use Rattle.routing.specs.declared.pair.Pair.{Pair}
use Rattle.routing.specs.declared.walk.Step.{Step}
use Rattle.routing.specs.Sources.{enters_switch}
use Rattle.routing.specs.Turns.{turns}
use Rattle.routing.specs.Paths.{Routing, Hop, hop, PairOf, behind, hop_at, OnPath, EndsAtHop}
use Rattle.routing.specs.Walks.{Walked}
use Rattle.routing.proofs.Hops.{came, hop_last, from_first}
use Rattle.routing.proofs.Rounds.{into_host}
use Rattle.builder.specs.Method.{alone, channels_of, PathOf, Passes}
use Rattle.builder.proofs.Fitting.{at_step, as_long}

-- two hops that are the same have the same behind them
pub shift : (g : Routing) (c v s i j : ℕ) → hop_at g c v s i ≡ hop_at g c v s j → (k m n : ℕ) → m ≡ k + i → n ≡ k + j → hop_at g c v s m ≡ hop_at g c v s n
shift g c v s i j e zero m n p q =
    let a : m ≡ i = omega arith in
    let b : n ≡ j = omega arith in
    ap (hop_at g c v s) a ∙ e ∙ sym (ap (hop_at g c v s) b)
shift g c v s i j e (suc k) m n p q =
    let a : m ≡ suc (k + i) = omega arith in
    let b : n ≡ suc (k + j) = omega arith in
    ap (hop_at g c v s) a ∙ ap (behind g v s) (shift g c v s i j e k (k + i) (k + j) refl refl) ∙ sym (ap (hop_at g c v s) b)

module _ (r : Rack) (route : ℕ → ℕ → Option ℕ) where
  pub lane_0 : (c v i : ℕ) (h : Hop) → hop_at (alone r route) c v 0 i ≡ Some h → h.lane ≡ 0
  lane_0 c v zero h e = ap (λ (x : Hop). x.lane) (sym (same_Some _ _ e))
  lane_0 c v (suc i) h e = let b = came (alone r route) v 0 (hop_at (alone r route) c v 0 i) h e in ap (λ (x : Hop). x.lane) b.3.3

  same_hop : (a b q : ℕ) → a ≡ b → q ≡ 0 → hop a q ≡ hop b 0
  same_hop a b q e z = λ i. hop (e i) (z i)

  -- what a walk lists is the path
  pub path_of : (lanes : ℕ) (p : Pair) (steps : List Step) → Walked (alone r route) lanes p 0 steps → PathOf r route p.sender.0 p.receiver.0 (channels_of steps)
  path_of lanes p [] w = absurd (omega (arith, w.some))
  path_of lanes p (x ∷ xs) w =
      let u = p.sender.0 in
      let v = p.receiver.0 in
      let n = as_long (x ∷ xs) in
      record {
        some = omega (arith, n, w.some);
        short = omega (arith, n, w.short);
        hops = λ i l.
            let below : i < length (x ∷ xs) = omega (arith, n) in
            let on = w.lists i x below in
            subst (OnPath (alone r route) u v 0 i) (same_hop _ _ _ (sym (at_step (x ∷ xs) i x below)) (lane_0 on.0 v i _ on.2)) on;
        ends = subst (λ k. EndsAtHop (alone r route) u v 0 (k - 1)) (sym n) w.ends;
      }

  module _ (u v : ℕ) (pair : PairOf r u v) (path : List ℕ) (is : PathOf r route u v path) where
    -- hop i, from the one channel that leaves the sender
    abbrev pub first : ℕ
    first = (is.hops 0 is.some).0

    leaving : Leaving r u first
    leaving = (is.hops 0 is.some).1

    here : (i : ℕ) (h : Hop) → OnPath (alone r route) u v 0 i h → hop_at (alone r route) first v 0 i ≡ Some h
    here i h on = from_first (alone r route) u v 0 first i h pair.0 leaving on

    pub hop_here : (i : ℕ) → i < length path → hop_at (alone r route) first v 0 i ≡ Some (hop (get_or path i 0) 0)
    hop_here i l = here i _ (is.hops i l)

    last_ends : enters_switch r is.ends.0.channel ≡ false
    last_ends = into_host (alone r route) _ v pair.1 is.ends.3

    -- no hop comes behind the last one
    pub none_behind : (k : ℕ) (h : Hop) → length path - 1 < k → hop_at (alone r route) first v 0 k ≡ Some h → ⊥
    none_behind k h l e = hop_last (alone r route) v 0 first (length path - 1) k is.ends.0 h (here (length path - 1) is.ends.0 is.ends.1) last_ends l e

    -- each channel but the last turns to the next
    pub turn_on : (j : ℕ) → j + 1 < length path → turns r (get_or path j 0) (get_or path (j + 1) 0) ≡ true
    turn_on j m =
        let after : suc j ≡ j + 1 = omega arith in
        let e = ap (hop_at (alone r route) first v 0) after ∙ hop_here (j + 1) m in
        let b = came (alone r route) v 0 (hop_at (alone r route) first v 0 j) _ e in
        let k : b.0.channel ≡ get_or path j 0 = ap (λ (x : Hop). x.channel) (same_Some _ _ (sym b.1 ∙ hop_here j (omega arith))) in
        let d : b.3.0 ≡ get_or path (j + 1) 0 = ap (λ (x : Hop). x.channel) (sym b.3.3) in
        subst (λ x. turns r (get_or path j 0) x ≡ true) d (subst (λ x. turns r x b.3.0 ≡ true) k b.3.2)

    never_again : (i j : ℕ) → i < j → j < length path → get_or path i 0 ≡ get_or path j 0 → ⊥
    never_again i j l m e =
        let n = length path - 1 in
        let same = hop_here i (omega arith) ∙ ap (λ x. Some (hop x 0)) e ∙ sym (hop_here j m) in
        let far = shift (alone r route) first v 0 i j same (n - i) n (n - i + j) (omega arith) refl in
        none_behind (n - i + j) is.ends.0 (omega arith) (sym far ∙ here n is.ends.0 is.ends.1)

    once : (i j : ℕ) → i < length path → j < length path → get_or path i 0 ≡ get_or path j 0 → i ≡ j
    once i j a b e =
        ⊎_elim
        (λ (q : i ≡ j). q)
        (λ (q : (i < j) ⊎ (j < i)). ⊎_elim (λ (l : i < j). absurd (never_again i j l b e)) (λ (l : j < i). absurd (never_again j i l a (sym e))) q)
        (cases_order i j)

    pub passes : Passes r path
    passes = record { turning = λ j m. turn_on j (omega (arith, m.1)); once = once }

  -- a pair has one path
  module _ (u v : ℕ) (pair : PairOf r u v) where
    no_longer : (p q : List ℕ) → PathOf r route u v p → (b : PathOf r route u v q) → length p < length q → ⊥
    no_longer p q a b l =
        none_behind u v pair p a (length q - 1) b.ends.0 (omega (arith, a.some)) (from_first (alone r route) u v 0 (a.hops 0 a.some).0 (length q - 1) b.ends.0 pair.0 (a.hops 0 a.some).1 b.ends.1)

    pub same_path : (p q : List ℕ) → PathOf r route u v p → PathOf r route u v q → p ≡ q
    same_path p q a b =
        let long : length p ≡ length q = ⊎_elim (λ (e : length p ≡ length q). e) (λ (d : (length p < length q) ⊎ (length q < length p)). ⊎_elim (λ l. absurd (no_longer p q a b l)) (λ l. absurd (no_longer q p b a l)) d) (cases_order (length p) (length q)) in
        ext_get_or 0 p q long (λ i l.
        let x = hop_here u v pair p a i l in
        let y = from_first (alone r route) u v 0 (a.hops 0 a.some).0 i (hop (get_or q i 0) 0) pair.0 (a.hops 0 a.some).1 (b.hops i (omega (arith, long))) in
        ap (λ (h : Hop). h.channel) (same_Some _ _ (sym x ∙ y)))
