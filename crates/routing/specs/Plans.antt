-- A plan as its routing: for contracts that are generic over the source and the lane map; and the numbers of lanes that it may have. Assumes nothing.
use Rattle.std.specs.Prelude.{ℕ, ◌≤◌, Option}
use Rattle.routing.specs.declared.plan.Plan.{Plan}
use Rattle.routing.specs.Paths.{Routing, routing}

-- where a plan sends packets, and on which lanes, by what its source names and its map says
abbrev pub routing_of : {S M : Type 0} → (S → ℕ → ℕ → Option ℕ) → (M → ℕ → ℕ → ℕ → ℕ) → Plan S M → Routing
routing_of route lanes plan = routing plan.rack.now (route plan.source.now) (lanes plan.map.now)

-- a lane count, or the depth of a queue, is 1 to 8
abbrev pub OneToEight : ℕ → Type 0
OneToEight n = (1 ≤ n) × (n ≤ 8)
