use Rattle.std.proofs.lemmas.Result.{err_from_is_err_and}
use Rattle.checking.proofs.Final.{settle_refused}
use Rattle.checking.proofs.check.settle.Goals as goal

pub returns-in_err-greatest : goal.returns-in_err-greatest
returns-in_err-greatest c =
    let q = err_from_is_err_and c.from_residual.result c.from_residual.ensures.1 in
    rw (q.1, q.2) (settle_refused c.args.rack.now c.args.dependencies.now _ _ _ _ c.in_err-greatest.field-0.0 (c.requires.ranks, c.requires.ring) c.in_err-greatest.ensures.answer)
