use Rattle.std.proofs.Common.{arith}
use Rattle.workbench.proofs.Tallying.{lanes_start, lanes_more, lanes_end}
use Rattle.workbench.proofs.tally.lanes_of.Goals as goal

pub loop-step-init : goal.loop-step-init
loop-step-init c = lanes_start c.args.path.now

pub loop-step-preserved : goal.loop-step-preserved
loop-step-preserved c =
    let step = c.step-item.result in
    rw c.max-lanes.ensures (rw c.number.ensures.same (lanes_more c.args.path.now c.loop-step.step-index c.loop-step.lanes step c.loop-step-test.true c.step-item.is c.loop-step.invariant))

pub returns : goal.returns
returns c = lanes_end c.args.path.now c.loop-step.step-index c.loop-step.lanes (omega arith) c.loop-step.invariant
