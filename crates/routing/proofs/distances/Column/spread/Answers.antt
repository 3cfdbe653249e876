use Rattle.std.proofs.Common.{rules, ◌≡◌, ◌<◌, sym, ◌∙◌, arith}
use Rattle.std.proofs.lemmas.Bool.{both_ways}
use Rattle.std.specs.Iterator.Adapters.{map_source}
use Rattle.rack.specs.Racks.{node_count}
use Rattle.routing.specs.Ways.{Passes}
use Rattle.routing.proofs.Columns.{pair_below}
use Rattle.routing.proofs.Reaching.{spread_skip, spread_reach}
use Rattle.routing.proofs.distances.Column.spread.Goals as goal
use Rattle.routing.proofs.distances.Column.spread.Goals.{else-distances-place-via-then-distances-place+else-lets_through, else-distances-place-via-else-distances-place}

pub bounds-distances-place : goal.bounds-distances-place
bounds-distances-place c =
    let column = c.args.self.now in
    let steps = c.in-Some.ensures.steps in
    let is : c.in-Some.node.0 ≡ (map_source c.loop-node.node-iterator).start = search rules in
    let below : c.in-Some.node.0 < node_count column.rack.now = omega (arith, is, steps.1.1.0, c.loop-node.invariant.2) in
    let place = pair_below _ _ _ below column.within in
    omega (arith, c.place.ensures, c.requires.room)

pub loop-node-preserved-then-lets_through : goal.loop-node-preserved-then-lets_through
loop-node-preserved-then-lets_through c =
    let column = c.args.self.now in
    let r = column.rack.now in
    let v = column.target.0 in
    let d = c.args.distance in
    let x = c.in-Some.node.0 in
    let t = c.loop-node.distances in
    let steps = c.in-Some.ensures.steps in
    let is : x ≡ (map_source c.loop-node.node-iterator).start = search rules in
    let below : x < node_count r = omega (arith, is, steps.1.1.0, c.loop-node.invariant.2) in
    let on = c.in-Some.ensures.goes.on c.loop-node.invariant.1 in
    (on.0, on.1, steps.1.0 ∙ c.loop-node.invariant.2, rw (steps.1.1.2, sym is) (spread_reach r v d c.requires.small x below c.args.distances.now t c.loop-node.found (rw is c.loop-node.invariant.3) c.reach-found.new.distances c.reach-found.result c.reach-found.ensures (rw c.place.ensures at c.if-distances-place.true, c.lets_through.ensures.0 c.if-lets_through.true)))

pub loop-node-preserved : goal.loop-node-preserved
loop-node-preserved c =
    let column = c.args.self.now in
    let r = column.rack.now in
    let v = column.target.0 in
    let d = c.args.distance in
    let x = c.in-Some.node.0 in
    let t = c.loop-node.distances in
    let steps = c.in-Some.ensures.steps in
    let is : x ≡ (map_source c.loop-node.node-iterator).start = search rules in
    let below : x < node_count r = omega (arith, is, steps.1.1.0, c.loop-node.invariant.2) in
    let on = c.in-Some.ensures.goes.on c.loop-node.invariant.1 in
    let off : Passes r v d t x → ⊥ =
    elim c.else-distances-place.branch [
      | else-distances-place-via-then-distances-place+else-lets_through w ↦ λ p. both_ways w.lets_through.result w.if-lets_through.false (w.lets_through.ensures.1 p.1)
      | else-distances-place-via-else-distances-place w ↦ λ p. w.if-distances-place.false (rw c.place.ensures p.0)
    ] in
    (on.0, on.1, steps.1.0 ∙ c.loop-node.invariant.2, rw (steps.1.1.2, sym is) (spread_skip r v d c.requires.small x below c.args.distances.now t c.loop-node.found (rw is c.loop-node.invariant.3) off))
