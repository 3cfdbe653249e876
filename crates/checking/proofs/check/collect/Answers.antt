use Rattle.std.proofs.Common.{get_or, ap, ◌∙◌, inr, arith}
use Rattle.std.proofs.lemmas.Result.{err_from_is_err_and}
use Rattle.checking.proofs.Pairing.{collected, zero_at}
use Rattle.checking.proofs.check.collect.Goals as goal

pub returns-in_err-mark_all-clause-fault : goal.returns-in_err-mark_all-clause-fault
returns-in_err-mark_all-clause-fault g c =
    let q = err_from_is_err_and c.from_residual-in_err-mark_all.result c.from_residual-in_err-mark_all.ensures.1 in
    rw (q.1, q.2) (inr c.in_err-mark_all.ensures.fault)

pub returns-clause-collected : goal.returns-clause-collected
returns-clause-collected g c =
    let told = c.in_ok-mark_all.ensures in
    let made = c.in_ok-marks.ensures in
    collected _ _ _ c.in_ok-marks.marks.items c.mark_all.new.self.marks.items told.fine told.marks (λ k. ap (λ xs. get_or xs k 0) (made.items_if_clones_equal (λ y e. e)) ∙ zero_at _ k)
    (omega (arith, c.mark_all.new.self.marks.ok.0, rw told.plan at c.mark_all.new.self.room))
