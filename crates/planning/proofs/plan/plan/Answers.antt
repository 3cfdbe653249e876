use Rattle.std.proofs.Common.{Err}
use Rattle.std.proofs.lemmas.Result.{err_from_is_err_and}
use Rattle.checking.specs.Answers.{tables_at}
use Rattle.planning.proofs.Built.{all_fine, all_rise, only_short}
use Rattle.planning.proofs.plan.plan.Goals as goal

pub returns-in_err-acceptance-clause-answer : goal.returns-in_err-acceptance-clause-answer
returns-in_err-acceptance-clause-answer g c =
    let r = c.args.rack.now in
    let route = g.S.ForwardingSource.route c.args.source.now in
    let lanes = c.build.new.lanes in
    let levels = c.build.new.levels in
    let count = c.args.lane_count in
    let before = tables_at c.args.dependencies.now c.args.ranks.now c.args.ring.now in
    let outcome = c.in_ok-build.ensures.answer in
    let built = c.in_ok-build.ensures.plan in
    let told = c.in_err-acceptance.ensures.answer in
    let q = err_from_is_err_and c.from_residual-in_err-acceptance.result c.from_residual-in_err-acceptance.ensures.1 in
    rw (q.1, q.2) (
      outcome,
      told,
      only_short r route lanes levels count outcome.0 built.0 built.1 before _ (Err c.in_err-acceptance.field-0.0) told
          (λ s. c.in_err-acceptance.ensures.rising s (all_fine r route lanes levels count outcome.0 built.0 built.1) (all_rise r route lanes levels count outcome.0 built.0 built.1)),
    )
