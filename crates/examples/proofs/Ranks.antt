-- Rings and greatest ranks, by a number for each point that grows along the relation. Assumes nothing.
use Rattle.std.proofs.Common.{Bool, ◌≡◌, ℕ, zero, suc, ◌+◌, ◌-◌, ◌*◌, ◌<◌, ◌≤◌, List, Ok, Err, Result, ◌≢◌, true, refl, ap, ◌∙◌, subst, inl, inr, arith, ltb-true, Some, None, Option}
use Rattle.std.specs.Prelude.{nat_lt}
use Rattle.std.proofs.lemmas.Option.{none-some}
use Rattle.rack.specs.Racks.{channel_count}
use Rattle.rack.specs.Network.{channels}
use Rattle.ranking.specs.Graphs.{ChainTo, IsRing, NoRing, Ranked}
use Rattle.routing.specs.Paths.{Routing, Hop, hop, PairOf}
use Rattle.checking.specs.declared.acceptance.Acceptance.{Acceptance}
use Rattle.checking.specs.declared.fault.CheckFault.{CheckFault}
use Rattle.checking.specs.declared.fault.CheckFault.TheVariants.{Memory}
use Rattle.checking.specs.Answers.{Checked, Accepted}
use Rattle.checking.specs.Plans.{level_at, virtual, IsFollowedBy, Sound}
use Rattle.examples.specs.Plans.{AcceptedWith}
use Rattle.examples.proofs.Nets.{Net, IsNet, ahead, behind_in}
use Rattle.examples.proofs.Walks.{all_pairs}
use Rattle.examples.proofs.Fine.{Laid, fine, linked, all_fine, follow_linked, followed_by}
use Rattle.examples.proofs.Sheets.{val, at_most, val_low}

module _ (f : ℕ → ℕ → Type 0) (high : ℕ → ℕ) (grows : (x y : ℕ) → f x y → high x < high y) where
  climbs : (at : ℕ → ℕ) (len : ℕ) → IsRing f at len → (i : ℕ) → i < len → high (at 0) ≤ high (at i)
  climbs at len r zero l = omega arith
  climbs at len r (suc i) l =
      let step : f (at i) (at (i + 1)) = r.steps i (omega arith) in
      let next : i + 1 ≡ suc i = omega arith in
      let here : f (at i) (at (suc i)) = subst (λ n. f (at i) (at n)) next step in
      omega (arith, climbs at len r i (omega arith), grows (at i) (at (suc i)) here)

  pub no_ring : NoRing f
  no_ring at len r = let some = r.some in omega (arith, climbs at len r (len - 1) (omega arith), grows (at (len - 1)) (at 0) r.closes)

  pub chain_low : (k y : ℕ) → ChainTo f k y → k ≤ high y
  chain_low zero y c = omega arith
  chain_low (suc k) y c = omega (arith, chain_low k c.0 c.1, grows c.0 y c.2)

  -- the greatest rank, where no number is above it and a chain is as long
  pub greatest_is : (n top best y : ℕ) (s t : List ℕ) → Ranked f n top s t → ((x : ℕ) → high x ≤ best) → y < n → ChainTo f best y → top ≡ best
  greatest_is n top best y s t ranked low l chain =
      let peak = ranked.peak (omega arith) in
      let reached : ChainTo f top peak.0 = subst (λ k. ChainTo f k peak.0) peak.2 (ranked.ranks peak.0 peak.1).reached in
      omega (arith, chain_low top peak.0 reached, low peak.0, (ranked.ranks y l).longest best chain, ranked.most y l)

-- by a list of ranks, in which a point that is not listed has rank 0: the rank rises from a hop to the next
abbrev pub rises : List (ℕ × ℕ) → Hop → Hop → Bool
rises ranks h o = nat_lt (val ranks (virtual h)) (val ranks (virtual o))

module _ (g : Routing) (l : Laid g.rack) (m : Net) (is : IsNet g 0 m) (levels : List ℕ) (flat : (u v : ℕ) → PairOf g.rack u v → level_at g.rack levels u v ≡ 0) where
  -- the path of a pair is a chain
  some_before : (v : ℕ) (x : Option Hop) (h : Hop) → behind_in m v x ≡ Some h → (o : Hop) × (x ≡ Some o)
  some_before v None h e = absurd (none-some h e)
  some_before v (Some o) h e = (o, refl)

  chain : (u v k : ℕ) (h : Hop) → PairOf g.rack u v → ahead m v k (Some (hop (2 * u) 0)) ≡ Some h → ChainTo (IsFollowedBy g levels) k (virtual h)
  chain u v zero h pair e = tt
  chain u v (suc k) h pair e =
      let o = some_before v (ahead m v k (Some (hop (2 * u) 0))) h e in
      (virtual o.0, chain u v k o.0 pair o.1, followed_by g l m is levels flat u v k o.0 h pair o.1 e)

  module _ (lanes n : ℕ) (ranks : List (ℕ × ℕ)) (all_well : all_pairs l.hosts (fine l.cables m n lanes) ≡ true) (all_rise : all_pairs l.hosts (linked m n (rises ranks)) ≡ true) where
    higher : (x y : ℕ) → IsFollowedBy g levels x y → val ranks x < val ranks y
    higher x y f = ltb-true (val ranks x) (val ranks y) (follow_linked g l m is levels flat n (λ x y. nat_lt (val ranks x) (val ranks y)) all_rise x y f)

    sound : Sound g levels lanes
    sound = record { pairs = all_fine g l m is levels flat n lanes all_well; no_ring = no_ring (IsFollowedBy g levels) (val ranks) higher }

    other_fault : (f : CheckFault) → f ≢ Memory → Accepted (Err f) → ⊥
    other_fault f ne (inl e) = absurd (cc)
    other_fault f ne (inr e) = ne (let same : f ≡ Memory = cc in same)

    -- the check accepts the plan; its greatest rank is that of hop `best` of the path of some pair
    pub accepts :
        (best u v : ℕ) (h : Hop) → PairOf g.rack u v → at_most best ranks ≡ true → ahead m v best (Some (hop (2 * u) 0)) ≡ Some h → nat_lt (virtual h) (8 * channels l.cables) ≡ true →
        AcceptedWith g levels lanes best
    accepts best u v h pair low here inside old new a told = by_answer a told.checked refused
      where
        refused : (f : CheckFault) → a ≡ Err f → ⊥
        refused f e = other_fault f (λ m. told.room (e ∙ ap Err m)) (subst Accepted e (told.exact.1 told.starts sound))

        point : virtual h < 8 * channel_count g.rack
        point = ltb-true (virtual h) (8 * channel_count g.rack) (ap (λ xs. nat_lt (virtual h) (8 * channels xs)) l.same_cables ∙ inside)

        by_answer : (a : Result Acceptance CheckFault) → Checked g levels lanes old new a → ((f : CheckFault) → a ≡ Err f → ⊥) → (k : Acceptance) × (a ≡ Ok k) × (k.greatest ≡ best)
        by_answer (Ok k) c none =
            (k, refl, greatest_is (IsFollowedBy g levels) (val ranks) higher (8 * channel_count g.rack) k.greatest best (virtual h) old.ranks new.ranks c.3 (val_low best ranks low) point (chain u v best h pair here))
        by_answer (Err f) c none = absurd (none f refl)
