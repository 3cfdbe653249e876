use Rattle.std.proofs.Common.{refl, arith}
use Rattle.std.proofs.lemmas.Result.{err_from_is_err_and}
use Rattle.rack.specs.Racks.{channel_count}
use Rattle.checking.proofs.Final.{bare_free, bare_refused}
use Rattle.checking.proofs.bare.check_channels.Goals as goal

pub returns : goal.returns
returns c =
    let r = c.args.rack.now in
    let table = c.args.dependencies.now in
    let told = c.in_ok-greatest.ensures.answer in
    ((omega (arith, c.dependency_words.ensures), told.0.0, told.0.1), told.1, told.2, bare_free r table (channel_count r) _ _ _ refl told.1)

pub returns-in_err-greatest : goal.returns-in_err-greatest
returns-in_err-greatest c =
    let q = err_from_is_err_and c.from_residual.result c.from_residual.ensures.1 in
    rw (q.1, q.2) (bare_refused c.args.rack.now c.args.dependencies.now _ _ _ _ c.in_err-greatest.field-0.0 (omega (arith, c.dependency_words.ensures)) c.in_err-greatest.ensures.answer)
