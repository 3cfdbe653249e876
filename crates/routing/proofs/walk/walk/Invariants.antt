use Rattle.std.proofs.Common.{ℕ, ◌-◌, ◌≤◌, vec_items, vec_capacity}
use Rattle.routing.specs.Paths.{routing}
use Rattle.routing.proofs.Walking.{Walking}
use Rattle.routing.proofs.walk.walk.Given as goal

abbrev pub invariant-loop-hop : goal.invariant-loop-hop
invariant-loop-hop g l =
    ((first : ℕ) × Walking (routing l.plan.rack.now (g.S.ForwardingSource.route l.plan.source.now) (g.M.LaneMap.lanes l.plan.map.now)) l.plan.lanes l.pair l.level.number first (l.hop - 1) l.at (vec_items l.path))
    × (vec_capacity l.initial.path ≤ vec_capacity l.path)
