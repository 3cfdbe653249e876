use Rattle.std.proofs.Common.{◌≡◌, Err, arith}
use Rattle.std.proofs.lemmas.Result.{IfOk-weaker}
use Rattle.checking.specs.Answers.{tables_at}
use Rattle.report.proofs.Outcomes.{written}
use Rattle.workbench.proofs.checked.check_text.Goals as goal

pub returns : goal.returns
returns g c =
    let after = c.check_plan-answer.new in
    let ring : c.deref.result.now ≡ after.ring = written c.in_ok-tables.tables.ring.items c.deref.ensures.value (omega (arith, c.check_plan-answer.auto.ring)) in
    IfOk-weaker c.refusal_text.result _ _
    (λ s told. record {
      before = tables_at c.deref_mut.result.now c.deref_mut-2.result.now c.deref_mut-3.result.now;
      after = tables_at after.dependencies after.ranks after.ring;
      answer = Err c.in-Err.fault;
      room = (omega (arith, c.in_ok-tables.ensures.long.1), omega (arith, c.in_ok-tables.ensures.long.2), omega (arith, c.in_ok-tables.ensures.long.3));
      checked = c.in-Err.ensures;
      said = rw ring at told;
    })
    c.refusal_text.ensures
