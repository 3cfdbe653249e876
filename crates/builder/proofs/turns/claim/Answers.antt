use Rattle.std.proofs.Common.{◌≡◌, ◌+◌, ◌≤◌, length, take, drop, set, sym, ap, ◌∙◌, arith}
use Rattle.routing.specs.Turns.{row_start}
use Rattle.builder.proofs.Rows.{row_put}
use Rattle.builder.proofs.turns.claim.Goals as goal

pub returns : goal.returns
returns c =
    let xs = c.args.lanes.now in
    let s = c.args.level.number in
    let lane = c.args.lane.number in
    let turn = rw c.unwrap-port.ensures at c.turn_port.ensures in
    let told = rw c.unwrap.ensures at c.row_of.ensures in
    let whole = rw c.unwrap-2.ensures at c.put.ensures in
    let place = c.row_place-place.ensures in
    let at' = c.row_place-place.result in
    let inside : at' + 16 ≤ length xs = omega (arith, told.0, place) in
    let row : c.with-row.result.lanes ≡ set (take 16 (drop at' xs)) s lane = c.with-row.ensures ∙ ap (λ row. set row s lane) (told.1 ∙ ap (λ n. take 16 (drop n xs)) (sym place)) in
    let e = row_put at' s lane xs c.with-row.result.lanes c.put.new.part inside (omega arith) row whole.1 in
    e ∙ ap (λ n. set xs (n + s) lane) (place ∙ ap (row_start c.args.arriving.0) turn.1)
