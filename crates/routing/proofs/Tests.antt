-- What the rack answers, as the tests of the specifications. Assumes nothing.
use Rattle.std.proofs.Common.{◌≡◌, ℕ, ◌<◌, ◌≤◌, Bool, true, false, ◌&&◌, ltb, get_or, Some, None, Option, is_some, MatchOption, refl, ap, ◌∙◌, ⊎_elim, ltb-true, le-ltb, lt-ltb, eq-eqb, ne_eqb, eqb-true}
use Rattle.std.proofs.lemmas.Bool.{and_from, and_left, and_right, and_parts, cases_lt}
use Rattle.rack.specs.declared.numbers.Node.{Node}
use Rattle.rack.specs.declared.rack.Rack.{Rack}
use Rattle.rack.specs.Racks.{nodes_of, channel_count, head, Host, EntersSwitch}
use Rattle.routing.specs.Sources.{enters_switch, is_end}
use Rattle.routing.specs.Turns.{turns}

pub both_snd : (a b : Bool) → a && b ≡ true → b ≡ true
both_snd a b p = (and_parts a b p).1

module _ (r : Rack) where
  pub enters_yes : (c w : ℕ) → EntersSwitch r c w → enters_switch r c ≡ true
  enters_yes c w h =
      and_from _ _ (lt-ltb c (channel_count r) h.0) (eq-eqb (get_or (nodes_of r) (head r c) 0) 2 (ap (λ n. get_or (nodes_of r) n 0) h.1 ∙ h.2))

  pub enters_no : (c : ℕ) → ((w : ℕ) → EntersSwitch r c w → ⊥) → enters_switch r c ≡ false
  enters_no c none =
      ⊎_elim
      (λ (l : c < channel_count r). and_right _ _ (ne_eqb (get_or (nodes_of r) (head r c) 0) 2 (λ e. none (head r c) (l, refl, e))))
      (λ (l : channel_count r ≤ c). and_left _ _ (le-ltb c (channel_count r) l))
      (cases_lt c (channel_count r))

  -- by whether a switch was told
  pub told_entered : (c : ℕ) (o : Option Node) → MatchOption o ((w : ℕ) → EntersSwitch r c w → ⊥) (λ w. EntersSwitch r c w.0) → is_some o ≡ true → enters_switch r c ≡ true
  told_entered c None h e = absurd (cc)
  told_entered c (Some w) h e = enters_yes c w.0 h

  pub told_left : (c : ℕ) (o : Option Node) → MatchOption o ((w : ℕ) → EntersSwitch r c w → ⊥) (λ w. EntersSwitch r c w.0) → is_some o ≡ false → enters_switch r c ≡ false
  told_left c None h e = enters_no c h
  told_left c (Some w) h e = absurd (cc)

  pub entered : (c : ℕ) → enters_switch r c ≡ true → EntersSwitch r c (head r c)
  entered c e = let both = and_parts (ltb c (channel_count r)) _ e in (ltb-true c (channel_count r) both.0, refl, eqb-true (get_or (nodes_of r) (head r c) 0) 2 both.1)

  pub end_yes : (v : ℕ) → Host r v → is_end r v ≡ true
  end_yes v h = eq-eqb (get_or (nodes_of r) v 0) 1 h

  pub end_no : (v : ℕ) → (Host r v → ⊥) → is_end r v ≡ false
  end_no v h = ne_eqb (get_or (nodes_of r) v 0) 1 h

  pub turns_below : (c d : ℕ) → turns r c d ≡ true → d < channel_count r
  turns_below c d e = ltb-true d (channel_count r) (and_parts _ _ (and_parts (enters_switch r c) _ e).1).0

  pub turns_enters : (c d : ℕ) → turns r c d ≡ true → enters_switch r c ≡ true
  turns_enters c d e = (and_parts _ _ e).0
