use Rattle.std.proofs.Common.{arith}
use Rattle.ranking.proofs.Turning.{mid_start, mid_skip, mid_raise, mid_end}
use Rattle.ranking.proofs.rounds.round.Goals as goal
use Rattle.ranking.proofs.rounds.round.Goals.{then-ranks-x, else-ranks-x}

pub loop-x-init : goal.loop-x-init
loop-x-init g c =
    mid_start _ _ (g.met.G.Graph.within c.args.graph.now) c.args.r c.args.ranks.now c.requires.level

pub loop-x-preserved : goal.loop-x-preserved
loop-x-preserved g c =
    let f = g.G.Graph.followed_by c.args.graph.now in
    let n = g.G.Graph.size c.args.graph.now in
    let within = g.met.G.Graph.within c.args.graph.now in
    let r = c.args.r in
    let s = c.args.ranks.now in
    elim c.if-ranks-x.branch [
      | then-ranks-x w ↦ rw w.ranks-is (mid_raise f n within r c.loop-x.x s c.loop-x.ranks w.raise.new.ranks (omega arith) c.loop-x.invariant w.if-ranks-x.true w.raise.ensures)
      | else-ranks-x w ↦ rw w.ranks-is (mid_skip f n within r c.loop-x.x s c.loop-x.ranks c.loop-x.invariant w.if-ranks-x.false)
    ]

pub returns : goal.returns
returns g c =
    mid_end _ _ (g.met.G.Graph.within c.args.graph.now) c.args.r c.args.ranks.now c.loop-x.ranks c.loop-x.x (omega arith) c.loop-x.invariant
