use Rattle.std.proofs.Common.{◌≤◌, get_or, rules, tests}
use Rattle.ranking.specs.declared.followers.Followers.{Followers}
use Rattle.ranking.specs.declared.followers.Reversed.{Reversed}
use Rattle.ranking.proofs.Seeking.{asked, sought}
use Rattle.ranking.proofs.rings.before.Goals as goal

pub find-requires-clause-callable : goal.find-requires-clause-callable
find-requires-clause-callable g c =
    asked {S = Followers (Reversed _) _} (λ s. s.graph.now) (λ s. s.point) (λ s. s.from) (λ k y x. g.G.Graph.followed_by k.0.now x y) _ (λ x. c.args.top ≤ get_or c.args.ranks.now x 0)
    (λ x q k. search (rules, tests)) _ _ _ c.of.ensures.graph c.of.ensures.point (λ x h. search rules)

pub returns : goal.returns
returns g c =
    sought {S = Followers (Reversed _) _} (λ s. s.graph.now) (λ s. s.point) (λ s. s.from) (λ k y x. g.G.Graph.followed_by k.0.now x y) _ (λ x. c.args.top ≤ get_or c.args.ranks.now x 0)
    (λ x q k. search (rules, tests)) _ _ _ c.of.ensures.graph c.of.ensures.point (λ x q k. search (rules, tests)) c.of.ensures.from c.find.result c.find.new.self c.find.ensures.ran
