use Rattle.ranking.proofs.Settling.{Going}
use Rattle.ranking.proofs.rounds.settle.Given as goal

abbrev pub invariant-loop-r : goal.invariant-loop-r
invariant-loop-r g l = Going (g.G.Graph.followed_by l.graph) (g.G.Graph.size l.graph) l.r-counter l.ranks
