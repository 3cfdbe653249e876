use Rattle.std.proofs.Common.{◌≡◌, ◌++◌, length, drop, vec_items, sym, ap, ◌∙◌, arith}
use Rattle.std.proofs.lemmas.Result.{err_from_is_err_and}
use Rattle.rack.specs.Racks.{channel_count}
use Rattle.std.proofs.lemmas.Slice.{drop-append-drop}
use Rattle.routing.specs.Turns.{turn_count}
use Rattle.checking.proofs.Final.{start_to, fault_to, settled_to, clauses}
use Rattle.checking.proofs.check.check.Goals as goal

pub collect-requires : goal.collect-requires
collect-requires g c = c.in_ok-admissible.ensures.starts.0.0

pub returns-in_err-admissible : goal.returns-in_err-admissible
returns-in_err-admissible g c =
    let q = err_from_is_err_and c.from_residual.result c.from_residual.ensures.1 in
    rw (q.1, q.2) (clauses _ _ _ _ _ _ (start_to _ _ _ _ c.in_err-admissible.field-0.0 c.in_err-admissible.ensures.refused))

pub returns-in_err-marks : goal.returns-in_err-marks
returns-in_err-marks g c =
    let q = err_from_is_err_and c.from_residual-in_err-marks.result c.from_residual-in_err-marks.ensures.1 in
    rw (q.1, q.2) (clauses _ _ _ _ _ _ (fault_to _ _ _ _ c.in_err-marks.field-0.0 c.in_ok-admissible.ensures.starts c.in_err-marks.ensures.fault))

pub returns : goal.returns
returns g c =
    let marks = vec_items c.in_ok-marks.marks in
    let part = c.copy_from_slice.new.self in
    let deps = c.args.dependencies.now in
    let told = c.in_ok-marks.ensures.collected in
    let turns = turn_count (channel_count c.args.plan.now.rack.now) in
    let is : part ≡ marks = c.copy_from_slice.ensures.after ∙ c.deref.ensures.value in
    let words : c.len.result ≡ turns = omega (arith, c.len.ensures, told.1, c.in_ok-marks.marks.ok.0) in
    let rest = drop c.len.result deps in
    let beyond : drop turns (part ++ rest) ≡ drop turns deps = drop-append-drop c.len.result deps part turns (omega arith) (ap length is ∙ told.1 ∙ sym words) in
    clauses _ _ _ _ _ _ (settled_to _ _ _ _ marks part rest c.settle.new.ranks c.settle.new.ring c.in_ok-admissible.ensures.starts told is beyond c.settle.result c.settle.ensures)
