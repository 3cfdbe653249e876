use Rattle.std.proofs.Common.{◌≡◌, vec_capacity}
use Rattle.checking.specs.Plans.{level_at}
use Rattle.routing.specs.Plans.{routing_of}
use Rattle.report.proofs.FinePairs.{no_fault}
use Rattle.report.proofs.pairs.Printer.print_pair.Goals as goal

pub returns-in_err-walk-clause-line : goal.returns-in_err-walk-clause-line
returns-in_err-walk-clause-line g c =
    let printer = c.args.self.now in
    let plan = printer.plan.now in
    let p = c.args.pair in
    let R = routing_of g.S.ForwardingSource.route g.M.LaneMap.lanes plan in
    let s = c.in_ok-level.level.number in
    let is : s ≡ level_at plan.rack.now plan.levels.now p.sender.0 p.receiver.0 = rw c.in_ok-level.ensures.ok_part at c.level_of.ensures in
    absurd (no_fault R plan.levels.now plan.lanes p s is c.requires printer.fine (vec_capacity printer.path) c.in_err-walk.field-0.0 printer.room c.in_err-walk.ensures.answer)
