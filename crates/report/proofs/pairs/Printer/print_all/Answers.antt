use Rattle.std.proofs.Common.{string_bytes, refl, ◌∙◌}
use Rattle.routing.specs.Plans.{routing_of}
use Rattle.report.proofs.Printing.{pairs_start, pairs_more, pairs_end}
use Rattle.report.proofs.pairs.Printer.print_all.Goals as goal

pub loop-pair-init : goal.loop-pair-init
loop-pair-init g c =
    let plan = c.args.self.now.plan.now in
    rw (c.into_iter-pair-iterator.ensures.into_iter_gives, c.of-pair-items.ensures.from)
    (tt, tt, c.of-pair-items.ensures.rack, refl, pairs_start (routing_of g.S.ForwardingSource.route g.M.LaneMap.lanes plan) plan.levels.now (string_bytes c.args.self.now.out))

pub print_pair-requires : goal.print_pair-requires
print_pair-requires g c = rw c.loop-pair.invariant.3 (rw c.loop-pair.invariant.2 at c.in-Some.ensures.steps.1).0

pub loop-pair-preserved : goal.loop-pair-preserved
loop-pair-preserved g c =
    let plan = c.args.self.now.plan.now in
    let so_far = c.loop-pair.invariant in
    let steps = rw so_far.2 at c.in-Some.ensures.steps in
    let line = rw so_far.3 at c.in_ok-print_pair.ensures.line in
    rw steps.2
    (tt, tt, steps.0, c.print_pair.ensures.plan ∙ so_far.3, pairs_more (routing_of g.S.ForwardingSource.route g.M.LaneMap.lanes plan) plan.levels.now (string_bytes c.args.self.now.out) c.loop-pair.pair-iterator.from c.in-Some.pair _ _ steps.1 so_far.4 line)

pub returns-clause-lines : goal.returns-clause-lines
returns-clause-lines g c =
    let plan = c.args.self.now.plan.now in
    let so_far = c.loop-pair.invariant in
    pairs_end (routing_of g.S.ForwardingSource.route g.M.LaneMap.lanes plan) plan.levels.now (string_bytes c.args.self.now.out) c.loop-pair.pair-iterator.from (string_bytes c.loop-pair.self.out) (rw so_far.2 at c.in-None.ensures.steps.1) so_far.4
