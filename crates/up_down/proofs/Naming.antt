-- Filled tables name the channels of shortest ways. Assumes nothing.
use Rattle.std.proofs.Common.{◌≡◌, ℕ, Bool, true, false, not, ◌&&◌, get_or, Some, None, Option, sym, subst, ⊎_elim, eqb-true}
use Rattle.std.proofs.lemmas.Bool.{cases_Bool, cond-true, cond-false, and_from, and_parts, both_ways}
use Rattle.rack.specs.declared.rack.Rack.{Rack}
use Rattle.rack.specs.Racks.{nodes_of, head, EntersSwitch, Host, Switch}
use Rattle.rack.proofs.Facts.{head_below, host_below}
use Rattle.routing.specs.Sources.{enters_switch, is_end}
use Rattle.routing.proofs.Tests.{enters_yes, entered, end_yes}
use Rattle.up_down.specs.declared.begin.Begin.{Begin}
use Rattle.up_down.specs.declared.source.UpDown.{UpDown}
use Rattle.up_down.specs.Ways.{up, Begins}
use Rattle.up_down.specs.Sources.{Names, IsUpDown, tier_of, first_of, begin_at, up_down_route}
use Rattle.up_down.specs.Tables.{TiersIn, BeginIs, AllRows}

module _ (r : Rack) (tier : ℕ → ℕ) (c v : ℕ) where
  -- what is named where a table tells how a shortest way begins
  named : (x : Option Begin) → EntersSwitch r c (head r c) → Host r v → BeginIs r tier v (not (up r tier c)) (head r c) x → Names r tier c v (first_of x)
  named None enters host is = λ w other _ k d begins. is k d (subst (λ y. Begins r tier v (not (up r tier c)) y k d) (sym other.1) begins)
  named (Some b) enters host is = (head r c, enters, host, (b.left, is.0))

  -- nothing is named elsewhere
  none_named : enters_switch r c && is_end r v ≡ false → Names r tier c v None
  none_named no_turn = λ w enters host k d begins. both_ways _ no_turn (and_from _ _ (enters_yes r c w enters) (end_yes r v host))

module _ (s : UpDown) (falling : AllRows s true) (rising : AllRows s false) where
  rows : (down : Bool) → AllRows s down
  rows true = falling
  rows false = rising

  -- so a source with all its rows filled names the channels of shortest ways
  names : (c v : ℕ) → Names s.rack.now (tier_of s.tiers.items) c v (up_down_route s c v)
  names c v =
      let r = s.rack.now in
      let tier = tier_of s.tiers.items in
      ⊎_elim
      (λ (e : enters_switch r c && is_end r v ≡ true).
      let both = and_parts (enters_switch r c) (is_end r v) e in
      let enters = entered r c both.0 in
      let host : Host r v = eqb-true (get_or (nodes_of r) v 0) 1 both.1 in
      let down = not (up r tier c) in
      subst (Names r tier c v) (sym (cond-true _ _ _ e))
      (named r tier c v (begin_at s down (head r c) v) enters host (rows down (head r c) (head_below r c enters.0) v (host_below r v host))))
      (λ (e : enters_switch r c && is_end r v ≡ false). subst (Names r tier c v) (sym (cond-false _ _ _ e)) (none_named r tier c v e))
      (cases_Bool (enters_switch r c && is_end r v))

  -- and goes up and then down over the root
  pub is_up_down : (r : Rack) (root : ℕ) → s.rack.now ≡ r → Switch r root → TiersIn r root s.tiers.items → IsUpDown r root (up_down_route s)
  is_up_down r root same switch tiers =
      record {
        switch = switch;
        tier = tier_of s.tiers.items;
        tiers = tiers.exact;
        names = λ c v. subst (λ x. Names x (tier_of s.tiers.items) c v (up_down_route s c v)) same (names c v);
      }
