use Rattle.std.proofs.Common.{◌≡◌}
use Rattle.routing.specs.Plans.{routing_of}
use Rattle.workbench.proofs.Tallying.{TalliedFrom}
use Rattle.workbench.proofs.tally.Tally.of.Given as goal

abbrev pub invariant-loop-pair : goal.invariant-loop-pair
invariant-loop-pair g l =
    let plan = l.fn.plan in
    (goal.iterator-loop-pair g).can_next l.pair-iterator
    × (goal.iterator-loop-pair g).is_finite l.pair-iterator
    × (l.pair-iterator.rack.now ≡ plan.rack.now)
    × TalliedFrom (routing_of g.S.ForwardingSource.route g.M.LaneMap.lanes plan) plan.levels.now l.pair-iterator.from l.tally
