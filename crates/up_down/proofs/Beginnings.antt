-- How shortest ways begin, from how they go on. Assumes nothing.
use Rattle.std.proofs.Common.{◌≡◌, ℕ, zero, suc, ◌+◌, ◌<◌, ◌≤◌, Bool, true, false, not, ◌&&◌, List, Some, None, sym, refl, ap, ◌∙◌, subst, ⊎_elim, add-one, arith}
use Rattle.std.proofs.lemmas.Bool.{cases_Bool, true≢false}
use Rattle.rack.specs.declared.numbers.Channel.{Channel}
use Rattle.rack.specs.declared.rack.Rack.{Rack}
use Rattle.rack.specs.Racks.{node_count, channel_count, head, tail, Leaving}
use Rattle.rack.proofs.Facts.{tail_below}
use Rattle.up_down.specs.declared.begin.Begin.{Begin}
use Rattle.up_down.specs.Ways.{up, UpDownWay}
use Rattle.up_down.specs.Sources.{tier_of}
use Rattle.up_down.specs.Tables.{TiersIn, order, places, most, FewestIs, BeginsBy, BeginIs}
use Rattle.up_down.proofs.Climbing.{first_less, up_before, down_behind}

-- channel d, and then so many
abbrev pub begin_with : Channel → ℕ → Begin
begin_with d k = record { first = d; left = k }

module _ (r : Rack) (root : ℕ) (list : List ℕ) (over : TiersIn r root list) where
  abbrev tier : ℕ → ℕ
  tier = tier_of list

  -- a node's place in the order is below their count
  pub order_below : (w : ℕ) → w < node_count r → order r tier w < places r
  order_below w l = let less = first_less (node_count r) (tier w) w 255 0 l (over.small w) in omega (arith, less)

  -- and a bound is small
  pub most_small : (down : Bool) (w : ℕ) → w < node_count r → most r tier down w < 65535
  most_small down w l =
      let inside = order_below w l in
      let few = r.rules.0.0 in
      ⊎_elim
      (λ (t : down ≡ true). rw t (omega (arith, inside, few)))
      (λ (f : down ≡ false). rw f (omega (arith, inside, few)))
      (cases_Bool down)

  -- behind a channel by which a way may go on, the bound is lower
  pub most_less : (down : Bool) (d : ℕ) → d < channel_count r → down && up r tier d ≡ false → most r tier (not (up r tier d)) (head r d) < most r tier down (tail r d)
  most_less down d l allowed =
      let inside = order_below (tail r d) (tail_below r d l) in
      ⊎_elim
      (λ (rises : up r tier d ≡ true).
      ⊎_elim
      (λ (t : down ≡ true). absurd (true≢false (sym (λ i. t i && rises i) ∙ allowed)))
      (λ (f : down ≡ false). let before = up_before r tier d l rises in rw (rises, f) (omega arith))
      (cases_Bool down))
      (λ (falls : up r tier d ≡ false).
      let behind = down_behind r tier d l falls in
      ⊎_elim
      (λ (t : down ≡ true). rw (falls, t) (omega arith))
      (λ (f : down ≡ false). rw (falls, f) (omega arith))
      (cases_Bool down))
      (cases_Bool (up r tier d))

  module _ (v w : ℕ) (down : Bool) where
    -- from how the ways begin to how long they are, where they end elsewhere
    pub fewest_none : (w ≡ v → ⊥) → BeginIs r tier v down w None → FewestIs r tier v down w None
    fewest_none other none zero way = other way
    fewest_none other none (suc k) way = none k way.0 (way.1, way.2, way.3)

    pub fewest_some : (b : Begin) → (w ≡ v → ⊥) → BeginIs r tier v down w (Some b) → FewestIs r tier v down w (Some (b.left + 1))
    fewest_some b other some = (
      subst (λ k. UpDownWay r tier v k down w) (sym (add-one b.left)) (b.first.0, some.0.begins.0, some.0.begins.1, some.0.begins.2),
      longer,
      omega (arith, some.1),
    )
      where
        longer : (n : ℕ) → UpDownWay r tier v n down w → b.left + 1 ≤ n
        longer zero way = absurd (other way)
        longer (suc n) way = omega (arith, some.0.shortest n way.0 (way.1, way.2, way.3))

    -- a way of no channels leads from a node to itself
    pub fewest_here : w ≡ v → FewestIs r tier v down w (Some 0)
    fewest_here e = (e, (λ n way. omega arith), omega arith)

    module _ (d : Channel) (leaves : Leaving r w d.0) where
      -- from how long the ways behind a channel are to how those begin that begin with it
      pub begins_not : down && up r tier d.0 ≡ true → BeginsBy r tier v down w d.0 None
      begins_not e k b = true≢false (sym e ∙ b.1)

      pub begins_none : FewestIs r tier v (not (up r tier d.0)) (head r d.0) None → BeginsBy r tier v down w d.0 None
      begins_none none k b = none k b.2

      pub begins_some : (k : ℕ) → down && up r tier d.0 ≡ false → FewestIs r tier v (not (up r tier d.0)) (head r d.0) (Some k) → BeginsBy r tier v down w d.0 (Some (begin_with d k))
      begins_some k allowed some =
          let less = most_less down d.0 leaves.0 allowed in
          let at : most r tier down (tail r d.0) ≡ most r tier down w = ap (most r tier down) leaves.1 in
          (refl, (leaves, allowed, some.0), (λ n b. some.1 n b.2), omega (arith, less, at, some.2))
