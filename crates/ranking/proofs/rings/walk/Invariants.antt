use Rattle.ranking.proofs.Counts.{alike}
use Rattle.ranking.proofs.Walking.{Walking}
use Rattle.ranking.proofs.rings.walk.Given as goal

abbrev pub invariant-steps : goal.invariant-steps
invariant-steps g l = Walking (g.G.Graph.followed_by l.graph) (g.G.Graph.size l.graph) l.top l.mark l.y l.ranks

abbrev pub decreases-steps : goal.decreases-steps
decreases-steps g l = alike l.top (g.G.Graph.size l.graph) l.ranks
