use Rattle.std.proofs.Common.{inl, Ok, Err, refl}
use Rattle.std.proofs.lemmas.Result.{IfOk-weaker}
use Rattle.checking.specs.Answers.{tables_at}
use Rattle.builder.specs.Method.{tables}
use Rattle.workbench.proofs.built.build_in.Goals as goal

pub returns-in-Ok : goal.returns-in-Ok
returns-in-Ok g c =
    IfOk-weaker c.accepted.result _ _
    (λ b s. inl (record {
      was = tables c.args.lanes.now c.args.levels.now;
      now = tables c.lay_out.new.lanes c.lay_out.new.levels;
      before = tables_at c.args.dependencies.now c.args.ranks.now c.args.ring.now;
      after = tables_at c.check_plan.new.dependencies c.check_plan.new.ranks c.check_plan.new.ring;
      answer = Ok c.in-Ok.acceptance;
      fits = c.requires.fits;
      stays = rw (c.lay_out.auto.lanes, c.lay_out.auto.levels) c.requires.fits;
      room = c.requires.room;
      laid = c.in_default.ensures;
      checked = c.in-Ok.ensures;
      says = rw c.greatest_rank.ensures at s;
    }))
    c.accepted.ensures

pub returns-in_ok-text-in-Err-check_plan : goal.returns-in_ok-text-in-Err-check_plan
returns-in_ok-text-in-Err-check_plan g c =
    inl (record {
      was = tables c.args.lanes.now c.args.levels.now;
      now = tables c.lay_out.new.lanes c.lay_out.new.levels;
      before = tables_at c.args.dependencies.now c.args.ranks.now c.args.ring.now;
      after = tables_at c.check_plan.new.dependencies c.check_plan.new.ranks c.check_plan.new.ring;
      answer = Err c.in-Err-check_plan.fault;
      fits = c.requires.fits;
      stays = rw (c.lay_out.auto.lanes, c.lay_out.auto.levels) c.requires.fits;
      room = c.requires.room;
      laid = c.in_default.ensures;
      checked = c.in-Err-check_plan.ensures;
      says = (c.in_ok-text-in-Err-check_plan.ensures, refl);
    })
