use Rattle.std.proofs.Common.{vec_items, arith}
use Rattle.fabric.proofs.Courses.{performs_none, performs_push, performs_all, keeps}
use Rattle.fabric.proofs.fabric.Fabric.run.Goals as goal

pub loop-call-init : goal.loop-call-init
loop-call-init g c =
    let made = c.in_ok-answers.ensures in
    (made.len, made.capacity, performs_none _ _ (vec_items c.in_ok-answers.answers) made.items)

pub loop-call-preserved : goal.loop-call-preserved
loop-call-preserved g c =
    let pushed = c.push_reserved.ensures in (
      omega (arith, pushed.len, c.loop-call.invariant.0),
      omega (arith, pushed.capacity, c.loop-call.invariant.1),
      performs_push _ _ c.args.calls.now (vec_items c.loop-call.answers) (vec_items c.push_reserved.new.self) c.loop-call.call-index _ c.act.result _ _
          c.loop-call-test.true c.loop-call.invariant.2 c.act.ensures pushed.items,
    )

pub returns : goal.returns
returns g c =
    keeps _ c.args.self.now.some c.args.queues.now c.args.calls.now (vec_items c.loop-call.answers) c.loop-call.queues
    (performs_all _ _ c.args.calls.now (vec_items c.loop-call.answers) c.loop-call.call-index _ c.loop-call-test.false c.loop-call.invariant.2)
