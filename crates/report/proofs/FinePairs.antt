-- The walk along the path of a fine pair ends, and gives its line. Assumes nothing.
use Rattle.std.proofs.Common.{◌≡◌, ℕ, ◌≤◌, List, sym, subst, arith}
use Rattle.std.proofs.Math.Logic.{∥∥₁_elim}
use Rattle.rack.specs.Racks.{channel_count}
use Rattle.routing.specs.declared.pair.Pair.{Pair}
use Rattle.routing.specs.declared.fault.WalkFault.{WalkFault}
use Rattle.routing.specs.declared.fault.WalkFault.TheVariants.{NoPair, Lane, Memory}
use Rattle.routing.specs.Paths.{Routing, PairOf, OnPath, Delivered}
use Rattle.routing.specs.Walks.{WalkStops}
use Rattle.routing.proofs.Determined.{stopped_undelivered}
use Rattle.checking.specs.Plans.{level_at, FinePair, AllFine}

module _ (g : Routing) (levels : List ℕ) (lanes : ℕ) (p : Pair) (s : ℕ) (is : s ≡ level_at g.rack levels p.sender.0 p.receiver.0) where
  abbrev u : ℕ
  u = p.sender.0

  abbrev v : ℕ
  v = p.receiver.0

  module _ (pair : PairOf g.rack u v) (fine : FinePair g levels lanes u v) where
    arrives : Delivered g u v s
    arrives = subst (Delivered g u v) (sym is) fine.arrives

    -- the walk meets no fault
    never_stops : (room : ℕ) (f : WalkFault) → channel_count g.rack ≤ room → WalkStops g lanes p s room f → ⊥
    never_stops room (NoPair q) l h = h.1 pair
    never_stops room (Lane q k) l h = let x = h.1 in omega (arith, fine.low k x.0 (subst (λ n. OnPath g u v n k x.0) is x.1), x.2)
    never_stops room Memory l h = omega (arith, h.1)
    never_stops room f l h = stopped_undelivered g lanes p s room f h tt arrives

  module _ (pair : PairOf g.rack u v) (all : ∥ AllFine g levels lanes ∥₁) where
    pub no_fault : (room : ℕ) (f : WalkFault) → channel_count g.rack ≤ room → WalkStops g lanes p s room f → ⊥
    no_fault room f l h = ∥∥₁_elim all (λ x y. absurd x) (λ fine. never_stops pair (fine u v pair) room f l h)
