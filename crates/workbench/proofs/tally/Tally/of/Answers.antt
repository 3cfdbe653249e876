use Rattle.routing.specs.Plans.{routing_of}
use Rattle.workbench.specs.Tallies.{Tallied}
use Rattle.workbench.proofs.Tallying.{untallied, tally_more, tally_end}
use Rattle.workbench.proofs.tally.Tally.of.Goals as goal

pub returns-in_err-of_pair : goal.returns-in_err-of_pair
returns-in_err-of_pair g c =
    let plan = c.args.plan.now in
    let R = routing_of g.S.ForwardingSource.route g.M.LaneMap.lanes plan in
    let pair = (rw c.loop-pair.invariant.2 at c.in-Some.ensures.steps.1).0 in
    untallied R plan.levels.now plan.lanes c.in-Some.pair (Tallied R plan.levels.now) c.from_residual-in_err-of_pair.result c.in_err-of_pair.field-0.0 pair c.in_err-of_pair.ensures c.from_residual-in_err-of_pair.ensures.1

pub loop-pair-preserved : goal.loop-pair-preserved
loop-pair-preserved g c =
    let plan = c.args.plan.now in
    let R = routing_of g.S.ForwardingSource.route g.M.LaneMap.lanes plan in
    let so_far = c.loop-pair.invariant in
    let steps = rw so_far.2 at c.in-Some.ensures.steps in
    rw steps.2
    (tt, tt, steps.0, tally_more R plan.levels.now c.loop-pair.pair-iterator.from c.in-Some.pair c.loop-pair.tally c.in_ok-of_pair.field-0 c.or-tally.result steps.1 so_far.3 c.in_ok-of_pair.ensures c.or-tally.ensures)

pub returns : goal.returns
returns g c =
    let plan = c.args.plan.now in
    let R = routing_of g.S.ForwardingSource.route g.M.LaneMap.lanes plan in
    let so_far = c.loop-pair.invariant in
    tally_end R plan.levels.now c.loop-pair.pair-iterator.from c.loop-pair.tally (rw so_far.2 at c.in-None.ensures.steps.1) so_far.3
