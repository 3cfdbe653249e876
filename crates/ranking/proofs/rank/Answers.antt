use Rattle.std.proofs.Common.{ℕ, take, drop, ◌++◌, sym, subst, arith, rules}
use Rattle.std.proofs.lemmas.List.{places}
use Rattle.ranking.specs.Graphs.{Answered}
use Rattle.ranking.proofs.Answering.{answered_whole, ok_iff_no_ring, ranks_iff_no_ring}
use Rattle.ranking.proofs.rank.Goals as goal

pub returns-clause-answer : goal.returns-clause-answer
returns-clause-answer g c =
    let f = g.G.Graph.followed_by c.args.graph.now in
    let s = c.args.ranks.now in
    let t = c.rank_points.new.ranks in
    let u = c.args.ring.now in
    let v = c.rank_points.new.ring in
    let r = c.rank_points.result in
    let P : ℕ → Type 0 = λ m. Answered f m (take c.points-n.result s) t (take c.points-n.result u) v r in
    let Q : ℕ → Type 0 = λ m. Answered f m s (t ++ drop c.points-n.result s) u (v ++ drop c.points-n.result u) r in
    subst Q c.points-n.ensures (answered_whole f c.points-n.result s t u v (omega arith, omega arith) (search (rules, places)) (search (rules, places)) r (subst P (sym c.points-n.ensures) c.rank_points.ensures))

pub returns-clause-ranked : goal.returns-clause-ranked
returns-clause-ranked g c =
    λ room. ok_iff_no_ring _ _ _ _ _ _ (search (rules, places), search (rules, places)) c.rank_points.result c.rank_points.ensures

pub returns-clause-ranks_iff_no_ring : goal.returns-clause-ranks_iff_no_ring
returns-clause-ranks_iff_no_ring g c =
    λ room. ranks_iff_no_ring _ _ _ _ _ _ (search (rules, places), search (rules, places)) (g.met.G.Graph.within c.args.graph.now) c.rank_points.result c.rank_points.ensures
