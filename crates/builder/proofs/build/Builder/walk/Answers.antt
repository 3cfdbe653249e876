use Rattle.std.proofs.Common.{vec_items, vec_capacity, subst}
use Rattle.std.proofs.lemmas.Result.{err_from_is_err_and}
use Rattle.routing.specs.Walks.{Walked, WalkStops}
use Rattle.builder.specs.Method.{alone}
use Rattle.routing.proofs.Determined.{with_room}
use Rattle.builder.proofs.Pathed.{path_of}
use Rattle.builder.proofs.build.Builder.walk.Goals as goal

pub returns-in_err-walk-clause-answer : goal.returns-in_err-walk-clause-answer
returns-in_err-walk-clause-answer g c =
    let given = c.args.self.now.given.now in
    let G = alone given.rack.now (g.S.ForwardingSource.route given.source.now) in
    let p = c.args.pair in
    let room = vec_capacity c.args.self.now.path in
    let w = c.in_err-walk.field-0.0 in
    let q = err_from_is_err_and c.from_residual.result c.from_residual.ensures.1 in
    let told = subst (λ s. WalkStops G 8 p s room w) c.zero.ensures c.in_err-walk.ensures.answer in
    rw q.1 (w, q.2, with_room G 8 p 0 room w c.args.self.now.cap told)

pub returns-clause-answer : goal.returns-clause-answer
returns-clause-answer g c =
    let given = c.args.self.now.given.now in
    let route = g.S.ForwardingSource.route given.source.now in
    let p = c.args.pair in
    let steps = vec_items c.walk.new.path in
    path_of given.rack.now route 8 p steps (subst (λ s. Walked (alone given.rack.now route) 8 p s steps) c.zero.ensures c.in_ok-walk.ensures.answer)
