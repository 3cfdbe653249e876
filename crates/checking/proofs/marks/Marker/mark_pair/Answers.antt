use Rattle.std.proofs.Common.{◌≡◌, ℕ, ◌+◌, ◌-◌, ◌<◌, true, List, length, get_or, vec_items, vec_capacity, sym, subst, arith}
use Rattle.std.proofs.lemmas.Result.{err_from_is_err_and}
use Rattle.routing.specs.declared.walk.Step.{Step}
use Rattle.routing.specs.Turns.{turns}
use Rattle.checking.specs.Plans.{level_at}
use Rattle.checking.specs.Marks.{Adds, ListSays}
use Rattle.checking.proofs.Adding.{adds_whole}
use Rattle.checking.proofs.Marking.{list_turns, pair_adds, pair_fine}
use Rattle.routing.proofs.Determined.{with_room}
use Rattle.checking.proofs.marks.Marker.mark_pair.Goals as goal

pub returns-in_err-walk-clause-fault : goal.returns-in_err-walk-clause-fault
returns-in_err-walk-clause-fault g c =
    let plan = c.args.self.now.plan.now in
    let p = c.args.pair in
    let s = c.in_ok-level.level.number in
    let f = c.in_err-walk.field-0.0 in
    let is : s ≡ level_at plan.rack.now plan.levels.now p.sender.0 p.receiver.0 = rw c.in_ok-level.ensures.ok_part at c.level_of.ensures in
    let below = c.in_ok-level.level.within in
    let q = err_from_is_err_and c.from_residual-in_err-walk.result c.from_residual-in_err-walk.ensures.1 in
    rw (q.1, q.2, sym is) (omega arith, with_room _ plan.lanes p s (vec_capacity c.args.self.now.path) f c.args.self.now.cap c.in_err-walk.ensures.answer)

pub mark_path-requires-clause-turn : goal.mark_path-requires-clause-turn
mark_path-requires-clause-turn g c =
    subst (λ (xs : List Step). (i : ℕ) (d : Step) → i + 1 < length xs → turns c.args.self.now.plan.now.rack.now (get_or xs i d).channel.0 (get_or xs (i + 1) d).channel.0 ≡ true) (sym c.deref.ensures.value)
    (list_turns _ c.args.self.now.plan.now.levels.now _ c.args.pair c.in_ok-level.level.number (vec_items c.walk.new.path) c.in_ok-walk.ensures.answer)

pub returns-clause-fine : goal.returns-clause-fine
returns-clause-fine g c =
    let below = c.in_ok-level.level.within in
    pair_fine _ _ _ c.args.pair c.in_ok-level.level.number (vec_items c.walk.new.path) c.in_ok-walk.ensures.answer (rw c.in_ok-level.ensures.ok_part at c.level_of.ensures) c.args.self.now.some (omega arith)

pub returns-clause-marks : goal.returns-clause-marks
returns-clause-marks g c =
    let s = c.deref_mut.result.now in
    let t = c.mark_path.new.marks in
    let adds = subst (λ (xs : List Step). Adds (ListSays c.args.self.now.plan.now.rack.now xs (length xs - 1)) s t) c.deref.ensures.value c.mark_path.ensures in
    adds_whole _ s t c.args.self.now.marks.items c.args.self.now.marks.len c.deref_mut.ensures.value (omega arith)
    (pair_adds _ _ _ c.args.pair c.in_ok-level.level.number (vec_items c.walk.new.path) c.in_ok-walk.ensures.answer (rw c.in_ok-level.ensures.ok_part at c.level_of.ensures) s t adds)
