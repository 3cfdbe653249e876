use Rattle.std.proofs.Common.{refl, ◌∙◌, arith}
use Rattle.std.proofs.lemmas.Result.{err_from_is_err_and}
use Rattle.builder.specs.Method.{tables}
use Rattle.builder.proofs.Taking.{blank_long, pairs_start, pairs_more, pairs_end, first_lacks}
use Rattle.builder.proofs.build.Builder.all.Goals as goal

pub loop-pair-init : goal.loop-pair-init
loop-pair-init g c =
    let given = c.args.self.now.given.now in
    let now = tables c.args.lanes.now c.args.levels.now in
    rw (c.into_iter-pair-iterator.ensures.into_iter_gives, c.of-pair-items.ensures.from)
    (tt, tt, c.of-pair-items.ensures.rack, refl, pairs_start given.rack.now (g.S.ForwardingSource.route given.source.now) given.lane_count now c.requires)

pub pair-requires : goal.pair-requires
pair-requires g c =
    let long = blank_long c.args.self.now.given.now.rack.now (tables c.args.lanes.now c.args.levels.now) c.requires in
    rw c.loop-pair.invariant.3
    (record {
      hosts = (rw c.loop-pair.invariant.2 at c.in-Some.ensures.steps.1).0;
      long = (omega (arith, long.0), omega (arith, long.1));
    })

pub loop-pair-preserved : goal.loop-pair-preserved
loop-pair-preserved g c =
    let given = c.args.self.now.given.now in
    let so_far = c.loop-pair.invariant in
    let steps = rw so_far.2 at c.in-Some.ensures.steps in
    let built = rw so_far.3 at c.in_ok-pair.ensures.answer in
    rw steps.2
    (tt, tt, steps.0, c.pair.ensures.given ∙ so_far.3, pairs_more given.rack.now (g.S.ForwardingSource.route given.source.now) given.lane_count c.loop-pair.pair-iterator.from c.in-Some.pair _ _ steps.1 so_far.4 built)

pub returns-in_err-pair : goal.returns-in_err-pair
returns-in_err-pair g c =
    let given = c.args.self.now.given.now in
    let so_far = c.loop-pair.invariant in
    let q = err_from_is_err_and c.from_residual.result c.from_residual.ensures.1 in
    let lacks = rw so_far.3 at c.in_err-pair.ensures.answer in
    rw (q.1, q.2)
    (first_lacks given.rack.now (g.S.ForwardingSource.route given.source.now) given.lane_count c.loop-pair.pair-iterator.from c.in-Some.pair (tables c.loop-pair.lanes c.loop-pair.levels) _ (rw so_far.2 at c.in-Some.ensures.steps.1) so_far.4 lacks)

pub returns : goal.returns
returns g c =
    let given = c.args.self.now.given.now in
    let so_far = c.loop-pair.invariant in
    pairs_end given.rack.now (g.S.ForwardingSource.route given.source.now) given.lane_count c.loop-pair.pair-iterator.from (tables c.loop-pair.lanes c.loop-pair.levels) (rw so_far.2 at c.in-None.ensures.steps.1) so_far.4
