use Rattle.std.proofs.Common.{◌≡◌, ap, inl, arith}
use Rattle.std.proofs.lemmas.Result.{err_from_is_err_and, MatchResult-weaker}
use Rattle.checking.specs.Answers.{tables_at}
use Rattle.builder.specs.Method.{tables}
use Rattle.report.specs.Refusals.{told}
use Rattle.report.proofs.Outcomes.{written, Fitting, planned_text, unplanned}
use Rattle.report.proofs.report.source_lines.Given.{Over}
use Rattle.report.proofs.report.source_lines.Goals as goal
use Rattle.report.proofs.report.source_lines.Goals.{After-deref-2}

pub returns-in_err-acceptance : goal.returns-in_err-acceptance
returns-in_err-acceptance g c =
    let q = err_from_is_err_and c.from_residual-in_err-acceptance.result c.from_residual-in_err-acceptance.ensures.1 in
    let made = c.in_ok-tables.ensures in
    let long = made.long in
    let was = tables c.deref_mut.result.now c.deref_mut-2.result.now in
    let before = tables_at c.deref_mut-3.result.now c.deref_mut-4.result.now c.deref_mut-5.result.now in
    rw (q.1, q.2)
    (unplanned c.args.rack.now (g.S.ForwardingSource.route c.args.source.now) was (tables c.plan.new.lanes c.plan.new.levels) before (tables_at c.plan.new.dependencies c.plan.new.ranks c.plan.new.ring) c.in_err-acceptance.field-0.0
    (omega (arith, made.lanes), omega (arith, made.levels)) (omega (arith, long.0), omega (arith, long.1), omega (arith, long.2), omega (arith, long.3)) c.in_err-acceptance.ensures.answer)

-- the vectors show what was planned
shown : (g : Over) (c : After-deref-2 g) → (c.deref.result.now ≡ c.plan.new.lanes) × (c.deref-2.result.now ≡ c.plan.new.levels)
shown g c =
    let t = c.in_ok-tables.tables in
    (written t.lanes.items c.deref.ensures.value (omega arith), written t.levels.items c.deref-2.ensures.value (omega arith))

pub plan_lines-requires : goal.plan_lines-requires
plan_lines-requires g c = let same = shown g (goal.at.plan_lines-requires g c).After-deref-2 in rw (same.0, same.1) c.in_ok-acceptance.ensures.answer.1.1

pub returns : goal.returns
returns g c =
    let same = shown g (goal.at.returns g c).After-deref-2 in
    let made = c.in_ok-tables.ensures in
    let fit : Fitting c.args.rack.now (tables c.plan.new.lanes c.plan.new.levels) = record { lanes = omega (arith, made.lanes); levels = omega (arith, made.levels) } in
    let plan = c.in_ok-acceptance.ensures.answer in
    MatchResult-weaker c.plan_lines.result c.plan_lines.ensures
    (λ s x. planned_text fit plan.0.2 plan.1.1 plan.1.3 (rw (same.0, same.1, c.greatest_rank.ensures) at x))
    (λ f e. inl (ap told e))
