use Rattle.std.proofs.Common.{arith}
use Rattle.fabric.specs.Calls.{setup_of}
use Rattle.fabric.proofs.Calls.{seen, first_read}
use Rattle.fabric.proofs.fabric.Fabric.first_at.Goals as goal

pub returns : goal.returns
returns g c =
    let s = setup_of g.S.ForwardingSource.route g.M.LaneMap.lanes c.args.plan.now c.args.self.now.depth in
    let item = c.index-queues-place in
    let here = seen c.args.queues.now c.args.from.0 c.place-2.result item.result c.place-2.ensures (omega (arith, c.in_ok-ready.ensures.1.1)) item.is in
    rw (c.ok_or.ensures.value, c.first.ensures) (first_read s c.args.queues.now c.args.from.0 item.result c.in_ok-ready.ensures (omega arith) here)
