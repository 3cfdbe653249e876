-- A pair whose path is walked stops for one reason, or has a path. Assumes nothing.
use Rattle.std.proofs.Common.{◌≡◌, ℕ, ◌-◌, ◌<◌, List, length, map, Option, sym, ap, subst, arith}
use Rattle.std.proofs.lemmas.List.{length-map, get_or-map}
use Rattle.rack.specs.declared.rack.Rack.{Rack}
use Rattle.rack.specs.Racks.{channel_count}
use Rattle.routing.specs.declared.pair.Pair.{Pair}
use Rattle.routing.specs.declared.walk.Step.{Step}
use Rattle.routing.specs.declared.fault.WalkFault.{WalkFault}
use Rattle.routing.specs.declared.fault.WalkFault.TheVariants.{Memory}
use Rattle.routing.specs.Paths.{PairOf, OnPath, EndsAtHop}
use Rattle.routing.specs.Walks.{hop_of, Walked, WalkStops}
use Rattle.routing.proofs.Determined.{one_fault as one_walk_fault, walked_or_stopped}
use Rattle.builder.specs.Method.{alone, PathOf}
use Rattle.builder.proofs.Pathed.{lane_0}

-- a step on lane 0
step_on : ℕ → Step
step_on c = record { channel = record { 0 = c }; lane = record { number = 0; within = omega arith } }

module _ (r : Rack) (route : ℕ → ℕ → Option ℕ) (p : Pair) where
  -- with room for every channel, memory is not wanting
  not_memory : (f : WalkFault) → WalkStops (alone r route) 8 p 0 (channel_count r) f → f ≡ Memory → ⊥
  not_memory f w e = let short : PairOf r p.sender.0 p.receiver.0 × (channel_count r < channel_count r) = subst (WalkStops (alone r route) 8 p 0 (channel_count r)) e w in omega (arith, short.1)

  pub one_fault : (e f : WalkFault) → WalkStops (alone r route) 8 p 0 (channel_count r) e → WalkStops (alone r route) 8 p 0 (channel_count r) f → e ≡ f
  one_fault e f a b = one_walk_fault (alone r route) 8 p 0 (channel_count r) (channel_count r) e f a b (not_memory e a) (not_memory f b)

  -- a path can be walked
  walked : PairOf r p.sender.0 p.receiver.0 → (path : List ℕ) → PathOf r route p.sender.0 p.receiver.0 path → Walked (alone r route) 8 p 0 (map step_on path)
  unfolding step_on
  walked pair path is =
      let long : length (map step_on path) ≡ length path = length-map path step_on in
      record {
        pair = pair;
        some = omega (arith, long, is.some);
        short = omega (arith, long, is.short);
        lists = λ i d l.
            let below : i < length path = omega (arith, long) in
            subst (OnPath (alone r route) p.sender.0 p.receiver.0 0 i) (ap hop_of (sym (get_or-map step_on path i 0 d below))) (is.hops i below);
        ends = subst (λ n. EndsAtHop (alone r route) p.sender.0 p.receiver.0 0 (n - 1)) (sym long) is.ends;
        low = λ i h later on. omega (arith, lane_0 r route on.0 p.receiver.0 i h on.2);
      }

  -- so there is no fault where there is a path
  pub no_fault : PairOf r p.sender.0 p.receiver.0 → (path : List ℕ) (f : WalkFault) → PathOf r route p.sender.0 p.receiver.0 path → WalkStops (alone r route) 8 p 0 (channel_count r) f → ⊥
  no_fault pair path f is w = not_memory f w (walked_or_stopped (alone r route) 8 p 0 (channel_count r) (map step_on path) f (walked pair path is) w)
