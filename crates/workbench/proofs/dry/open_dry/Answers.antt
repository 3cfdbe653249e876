use Rattle.std.proofs.Common.{◌≡◌, refl, inr, arith}
use Rattle.checking.specs.Answers.{tables_at}
use Rattle.report.proofs.Outcomes.{written}
use Rattle.workbench.proofs.dry.open_dry.Goals as goal

pub returns-clause-says : goal.returns-clause-says
returns-clause-says g c =
    let after = c.check_plan-answer.new in
    let ring : c.deref.result.now ≡ after.ring = written c.in_ok-tables.tables.ring.items c.deref.ensures.value (omega (arith, c.check_plan-answer.auto.ring)) in
    inr (record {
      was = tables_at c.deref_mut.result.now c.deref_mut-2.result.now c.deref_mut-3.result.now;
      now = tables_at after.dependencies after.ranks after.ring;
      fault = c.in-Err.fault;
      room = (omega (arith, c.in_ok-tables.ensures.long.1), omega (arith, c.in_ok-tables.ensures.long.2), omega (arith, c.in_ok-tables.ensures.long.3));
      checked = c.in-Err.ensures;
      says = rw ring at c.in_ok-text-in-Err.ensures;
      kept = refl;
    })
