-- Ways through switches only, and plain ways: the fewest channels are the same. Assumes nothing.
use Rattle.std.proofs.Common.{◌≡◌, ℕ, zero, suc, ◌<◌, ◌≤◌, ap, ◌∙◌, subst, ⊎_elim, arith}
use Rattle.rack.specs.declared.rack.Rack.{Rack}
use Rattle.rack.specs.Racks.{head, Host, Switch, Leaving, back}
use Rattle.rack.proofs.Facts.{head_below, host_or_switch, ways_back}
use Rattle.routing.specs.Ways.{Way, Fewest}
use Rattle.routing.proofs.Hops.{only_out}
use Rattle.up_down.specs.Ways.{PlainWay}

module _ (r : Rack) (v : ℕ) where
  -- a way through switches is a way
  pub plain : (k w : ℕ) → Way r v k w → PlainWay r v k w
  plain zero w way = way
  plain (suc k) w way = (way.0, way.1, plain k (head r way.0) way.3)

  -- a channel in front of a way through switches; if it enters a host in the midst, the next one leads back, and the rest is a way from here
  in_front : (k w c j : ℕ) → j ≤ k → Leaving r w c → Way r v j (head r c) → (i : ℕ) × (i ≤ suc k) × Way r v i w
  in_front k w c zero l leaves way = (1, omega arith, (c, leaves, λ h. absurd (omega arith), way))
  in_front k w c (suc j) l leaves way =
      ⊎_elim
      (λ (host : Host r (head r c)).
      let b = ways_back r c leaves.0 in
      let same = only_out r (head r c) way.0 (back c) host way.1 (b.0, b.2) in
      (j, omega arith, subst (Way r v j) (ap (head r) same ∙ b.4 ∙ leaves.1) way.3))
      (λ (switch : Switch r (head r c)). (suc (suc j), omega arith, (c, leaves, λ _. switch, way)))
      (host_or_switch r (head r c) (head_below r c leaves.0))

  -- so where a way leads, one through switches does that is no longer
  pub through : (k w : ℕ) → PlainWay r v k w → (j : ℕ) × (j ≤ k) × Way r v j w
  through zero w way = (0, omega arith, way)
  through (suc k) w way = let rest = through k (head r way.0) way.2 in in_front k w way.0 rest.0 rest.1 way.1 rest.2

  module _ (w d : ℕ) (fewest : Fewest r v w d) where
    -- so the fewest channels through switches are the fewest of all
    pub fewest_plain : d < 255 → PlainWay r v d w × ((k : ℕ) → PlainWay r v k w → d ≤ k)
    fewest_plain small = (plain d w (fewest.reached small), λ k way. let t = through k w way in omega (arith, t.1, fewest.shortest t.0 t.2))

    -- and where there are none, no way leads
    pub none_plain : d ≡ 255 → (k : ℕ) → PlainWay r v k w → ⊥
    none_plain e k way = let t = through k w way in fewest.none e t.0 t.2
