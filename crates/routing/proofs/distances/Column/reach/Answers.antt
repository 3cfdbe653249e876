use Rattle.std.proofs.Common.{◌<◌, length, arith}
use Rattle.rack.proofs.Facts.{head_below}
use Rattle.routing.proofs.Columns.{pair_below}
use Rattle.routing.proofs.Reaching.{head_place, reaching_none, reaching_skip, reaching_write, reaching_all}
use Rattle.routing.proofs.distances.Column.reach.Goals as goal
use Rattle.routing.proofs.distances.Column.reach.Goals.{in-Some+then-distances-place, in-Some+else-distances-place, in_default}

pub bounds-distances-place : goal.bounds-distances-place
bounds-distances-place c =
    let column = c.args.self.now in
    let is = head_place column.rack.now column.target.0 _ _ _ c.place-place.ensures c.in-Some.ensures.2 in
    let below = pair_below _ _ _ (head_below column.rack.now _ c.in-Some.ensures.0) column.within in
    omega (arith, is, below)

pub loop-channel-init : goal.loop-channel-init
loop-channel-init c =
    reaching_none _ _ _ _ _ c.leaving-channel-items.ensures _

pub loop-channel-preserved : goal.loop-channel-preserved
loop-channel-preserved c =
    let column = c.args.self.now in
    let r = column.rack.now in
    let v = column.target.0 in
    let list = c.leaving-channel-items.result.now in
    let leavers = c.leaving-channel-items.ensures in
    let k = c.loop-channel.channel-index in
    let inside : k < length list = omega arith in
    elim c.match-ends.branch [
      | in-Some+then-distances-place w ↦
          let is = head_place r v _ _ _ w.place-place.ensures w.in-Some.ensures.2 in
          rw (w.distances-is, w.found-is)
          (reaching_write r v c.args.node.0 c.args.distance list leavers k inside column.within c.requires.small c.args.distances.now c.loop-channel.distances c.loop-channel.found w.place-place.result (omega arith) is w.if-distances-place.true c.loop-channel.invariant)
      | in-Some+else-distances-place w ↦
          let is = head_place r v _ _ _ w.place-place.ensures w.in-Some.ensures.2 in
          rw (w.distances-is, w.found-is)
          (reaching_skip r v c.args.node.0 c.args.distance list leavers k inside c.args.distances.now c.loop-channel.distances c.loop-channel.found w.place-place.result is w.if-distances-place.false c.loop-channel.invariant)
      | in_default w ↦ absurd (omega (arith, w.in_default.ensures, (leavers.each k (record { 0 = 0 }) inside).0))
    ]

pub returns : goal.returns
returns c =
    reaching_all _ _ _ _ c.leaving-channel-items.result.now c.leaving-channel-items.ensures c.loop-channel.channel-index c.loop-channel-test.false _ _ _ c.loop-channel.invariant
