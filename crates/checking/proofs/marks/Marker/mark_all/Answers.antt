use Rattle.std.proofs.Common.{◌≡◌, ◌+◌, ◌∙◌, subst}
use Rattle.std.proofs.lemmas.Result.{err_from_is_err_and}
use Rattle.routing.specs.Plans.{routing_of}
use Rattle.routing.specs.Pairs.{pair_place}
use Rattle.checking.specs.Marks.{Adds, PairSays}
use Rattle.checking.proofs.Pairing.{pairs_more, pairs_end, first_fault}
use Rattle.checking.proofs.marks.Marker.mark_all.Goals as goal

pub returns-in_err-mark_pair-clause-fault : goal.returns-in_err-mark_pair-clause-fault
returns-in_err-mark_pair-clause-fault g c =
    let q = err_from_is_err_and c.from_residual.result c.from_residual.ensures.1 in
    let so_far = c.loop-pair.invariant in
    rw (q.1, q.2) (first_fault _ _ _ c.loop-pair.pair-iterator.from c.in-Some.pair (rw so_far.2 at c.in-Some.ensures.steps.1) _ so_far.4 (rw so_far.3 at c.in_err-mark_pair.ensures.fault))

pub loop-pair-preserved : goal.loop-pair-preserved
loop-pair-preserved g c =
    let so_far = c.loop-pair.invariant in
    let p = c.in-Some.pair in
    let steps = c.in-Some.ensures.steps in
    let told = c.in_ok-mark_pair.ensures in
    let plan = c.args.self.now.plan.now in
    let R = routing_of g.S.ForwardingSource.route g.M.LaneMap.lanes plan in
    let marks = subst (λ q. Adds (PairSays (routing_of g.S.ForwardingSource.route g.M.LaneMap.lanes q.now) q.now.levels.now p.sender.0 p.receiver.0) c.loop-pair.self.marks.items c.mark_pair.new.self.marks.items) so_far.3 told.marks in
    let more = pairs_more R plan.levels.now plan.lanes c.loop-pair.pair-iterator.from p (rw so_far.2 at steps.1) c.args.self.now.marks.items c.loop-pair.self.marks.items c.mark_pair.new.self.marks.items (rw so_far.3 at told.fine) so_far.4 so_far.5 marks in
    let at : c.next.new.self.from ≡ pair_place plan.rack.now p.sender.0 p.receiver.0 + 1 = rw so_far.2 at steps.2 in
    (tt, tt, steps.0 ∙ so_far.2, told.plan ∙ so_far.3, rw at more.0, rw at more.1)

pub returns-clause-fine : goal.returns-clause-fine
returns-clause-fine g c =
    let so_far = c.loop-pair.invariant in
    (pairs_end _ _ _ c.loop-pair.pair-iterator.from c.args.self.now.marks.items c.loop-pair.self.marks.items (rw so_far.2 at c.in-None.ensures.steps.1) so_far.4 so_far.5).0

pub returns-clause-marks : goal.returns-clause-marks
returns-clause-marks g c =
    let so_far = c.loop-pair.invariant in
    (pairs_end _ _ _ c.loop-pair.pair-iterator.from c.args.self.now.marks.items c.loop-pair.self.marks.items (rw so_far.2 at c.in-None.ensures.steps.1) so_far.4 so_far.5).1
