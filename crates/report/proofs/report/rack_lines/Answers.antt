use Rattle.std.proofs.Common.{◌≡◌, refl, inl, inr, arith}
use Rattle.std.proofs.lemmas.Result.{MatchResult-weaker}
use Rattle.routing.specs.Sources.{stored_route}
use Rattle.report.proofs.Outcomes.{lack_weaker, lack_from}
use Rattle.report.proofs.report.rack_lines.Goals as goal

pub returns-then-counts-gt0 : goal.returns-then-counts-gt0
returns-then-counts-gt0 c =
    let some = c.if-counts-gt0.true in
    let route = stored_route c.args.rack.now c.args.forwarding.now in
    MatchResult-weaker c.source_lines.result c.source_lines.ensures (λ s t. (route, inl (some, refl), t)) (λ f l. lack_from c.args.rack.now route _ f (inl (some, refl)) l)

pub returns : goal.returns
returns c =
    let none : c.args.counts.entries ≡ 0 = omega arith in
    MatchResult-weaker c.downhill_lines.result c.downhill_lines.ensures (λ s t. (t.0, inr (none, t.1), t.2)) (λ f l. lack_weaker c.args.rack.now _ _ f (λ route d. inr (none, d)) l)
