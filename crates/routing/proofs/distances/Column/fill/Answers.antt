use Rattle.std.proofs.Common.{◌<◌, ◌∙◌, arith}
use Rattle.routing.proofs.Columns.{beside_set}
use Rattle.routing.proofs.Nearness.{settled_start, settled_more, settled_end}
use Rattle.routing.proofs.distances.Column.fill.Goals as goal

pub loop-distance-init : goal.loop-distance-init
loop-distance-init c =
    let column = c.args.self.now in (
      rw c.place.ensures (settled_start column.rack.now column.target.0 c.args.distances.now column.within c.requires.room c.requires.blank),
      rw c.place.ensures (beside_set _ _ _ _ _ column.within),
    )

pub returns-then-not-spread : goal.returns-then-not-spread
returns-then-not-spread c =
    let few : c.loop-distance.distance < 128 = omega (arith, c.node_count-distance-end.ensures.1) in
    record {
      column = settled_end _ _ _ _ _ _ few c.args.self.now.within c.loop-distance.invariant.0 c.spread.ensures c.if-not-spread.true;
      beside = λ k off. c.spread.ensures.grown.beside k off ∙ c.loop-distance.invariant.1 k off;
    }

pub loop-distance-preserved : goal.loop-distance-preserved
loop-distance-preserved c = (
  settled_more _ _ _ _ _ _ (omega (arith, c.node_count-distance-end.ensures.1)) c.args.self.now.within c.loop-distance.invariant.0 c.spread.ensures c.if-not-spread.false,
  λ k off. c.spread.ensures.grown.beside k off ∙ c.loop-distance.invariant.1 k off,
)
