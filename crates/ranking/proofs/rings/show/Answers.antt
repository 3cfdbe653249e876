use Rattle.std.proofs.Common.{subst, arith, rules}
use Rattle.ranking.specs.Workings.{Gathered}
use Rattle.ranking.proofs.Walking.{ringed}
use Rattle.ranking.proofs.Tables.{same_past}
use Rattle.ranking.proofs.rings.show.Goals as goal

pub returns : goal.returns
returns g c =
    let n = g.G.Graph.size c.args.graph.now in
    let lo = c.walk-span.result.lo in
    let hi = c.walk-span.result.hi in
    let t = c.walk-span.new.ranks in
    let gathered : Gathered n lo hi t c.args.ring.now c.gather.new.ring = subst (λ m. Gathered m lo hi t c.args.ring.now c.gather.new.ring) (omega arith) c.gather.ensures in
    ringed _ n lo hi t c.walk-span.ensures _ c.args.ranks.now c.args.ring.now c.gather.new.ring c.fill.new.self gathered (λ y l. search rules) (same_past _ _ _ c.requires.ranks_fit (omega arith)) c.count.ensures
