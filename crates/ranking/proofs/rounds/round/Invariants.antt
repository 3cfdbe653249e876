use Rattle.ranking.specs.Workings.{Mid}
use Rattle.ranking.proofs.rounds.round.Given as goal

abbrev pub invariant-loop-x : goal.invariant-loop-x
invariant-loop-x g l = Mid (g.G.Graph.followed_by l.graph) (g.G.Graph.size l.graph) l.r l.x l.initial.ranks l.ranks
