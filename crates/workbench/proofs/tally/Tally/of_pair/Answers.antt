use Rattle.std.proofs.Common.{◌≡◌, length, vec_len, sym, ◌∙◌}
use Rattle.checking.specs.Plans.{level_at}
use Rattle.routing.specs.Plans.{routing_of}
use Rattle.workbench.specs.Tallies.{OneTallied}
use Rattle.workbench.proofs.Tallying.{tallied_one, unwalked}
use Rattle.workbench.proofs.tally.Tally.of_pair.Goals as goal

pub returns-in_err-walk : goal.returns-in_err-walk
returns-in_err-walk g c =
    let plan = c.args.plan.now in
    let p = c.args.pair in
    let R = routing_of g.S.ForwardingSource.route g.M.LaneMap.lanes plan in
    let s = c.in_ok-level.level.number in
    let is : s ≡ level_at plan.rack.now plan.levels.now p.sender.0 p.receiver.0 = rw c.in_ok-level.ensures.ok_part at c.level_of.ensures in
    unwalked R plan.levels.now plan.lanes p (OneTallied R plan.levels.now p.sender.0 p.receiver.0) c.from_residual-in_err-walk.result s _ c.in_err-walk.field-0.0 is c.in_err-walk.ensures.answer c.from_residual-in_err-walk.ensures.1

pub returns : goal.returns
returns g c =
    let plan = c.args.plan.now in
    let p = c.args.pair in
    let R = routing_of g.S.ForwardingSource.route g.M.LaneMap.lanes plan in
    let s = c.in_ok-level.level.number in
    let is : s ≡ level_at plan.rack.now plan.levels.now p.sender.0 p.receiver.0 = rw c.in_ok-level.ensures.ok_part at c.level_of.ensures in
    let lanes = rw c.deref.ensures.value at c.lanes_of.ensures in
    let long : length c.walk.new.path.items ≡ vec_len c.walk.new.path = rw c.deref.ensures.value at c.deref.ensures.len in
    tallied_one R plan.levels.now plan.lanes p s c.number.result c.lanes_of.result c.len.result c.walk.new.path.items is c.number.ensures.same (c.len.ensures ∙ sym long) c.in_ok-walk.ensures.answer lanes
