-- Where the walk along a path stops, by tests of written tables. Assumes nothing.
use Rattle.std.proofs.Common.{◌≡◌, ℕ, suc, ◌-◌, ◌*◌, ◌≤◌, true, Some, sym, refl, ◌∙◌, subst, arith, ltb-true}
use Rattle.std.specs.Prelude.{nat_lt}
use Rattle.routing.specs.declared.pair.Pair.{Pair}
use Rattle.routing.specs.Paths.{Routing, Hop, hop, PairOf}
use Rattle.routing.specs.Walks.{Reaches, Stops}
use Rattle.examples.proofs.Nets.{Net, IsNet, ahead}
use Rattle.examples.proofs.Walks.{each, from_each, begun}
use Rattle.examples.proofs.Fine.{Laid, path_in, to_path, on_path}

module _ (g : Routing) (laid : Laid g.rack) (m : Net) (is : IsNet g 0 m) where
  reaches : (lanes u v i : ℕ) (h : Hop) → PairOf g.rack u v → 1 ≤ lanes → ahead m v i (Some (hop (2 * u) 0)) ≡ Some h → each (λ h. nat_lt h.lane 1) (path_in m (suc i) u v) ≡ true → Reaches g lanes u v 0 i h
  reaches lanes u v i h pair some at low = (
    on_path g laid m is u v i h pair.0 at,
    λ j k _ l on.
        let found = sym (begun m v (suc i) (Some (hop (2 * u) 0)) j (omega arith)) ∙ to_path g laid m is u v j k pair.0 on in
        let below = ltb-true k.lane 1 (from_each (λ h. nat_lt h.lane 1) (path_in m (suc i) u v) low j k found) in
        omega arith,
  )

  -- hop k is the first at fault: hop k - 1 enters a switch, and those so far are on lane 0
  pub stops :
      (lanes : ℕ) (p : Pair) (i k : ℕ) (h : Hop) → PairOf g.rack p.sender.0 p.receiver.0 → 1 ≤ lanes → k ≡ suc i → ahead m p.receiver.0 i (Some (hop (2 * p.sender.0) 0)) ≡ Some h →
      each (λ h. nat_lt h.lane 1) (path_in m (suc i) p.sender.0 p.receiver.0) ≡ true → m.enters h.channel ≡ true → Stops g lanes p p 0 k h
  stops lanes p i k h pair some next at low enters =
      let before : k - 1 ≡ i = omega arith in
      record {
        told = refl;
        pair = pair;
        later = omega arith;
        before = subst (λ n. Reaches g lanes p.sender.0 p.receiver.0 0 n h) (sym before) (reaches lanes p.sender.0 p.receiver.0 i h pair some at low);
        switch = is.enters h.channel ∙ enters;
      }
