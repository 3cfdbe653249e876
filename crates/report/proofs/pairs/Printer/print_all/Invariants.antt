use Rattle.std.proofs.Common.{◌≡◌, string_bytes}
use Rattle.routing.specs.Plans.{routing_of}
use Rattle.report.proofs.Printing.{PrintedFrom}
use Rattle.report.proofs.pairs.Printer.print_all.Given as goal

abbrev pub invariant-loop-pair : goal.invariant-loop-pair
invariant-loop-pair g l =
    let plan = l.fn.self.plan.now in
    (goal.iterator-loop-pair g).can_next l.pair-iterator
    × (goal.iterator-loop-pair g).is_finite l.pair-iterator
    × (l.pair-iterator.rack.now ≡ plan.rack.now)
    × (l.self.plan ≡ l.fn.self.plan)
    × PrintedFrom (routing_of g.S.ForwardingSource.route g.M.LaneMap.lanes plan) plan.levels.now (string_bytes l.initial.self.out) l.pair-iterator.from (string_bytes l.self.out)
