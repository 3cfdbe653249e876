use Rattle.std.proofs.Common.{◌≡◌, rules, tests, subst}
use Rattle.std.specs.Option.{option_map}
use Rattle.std.proofs.lemmas.Iterator.{first_from_find}
use Rattle.ranking.specs.Graphs.{Next}
use Rattle.checking.specs.Searches.{MarkedOf}
use Rattle.checking.proofs.Scans.{Wanted, marked_next}
use Rattle.checking.proofs.bare.first_marked.Goals as goal

pub returns : goal.returns
returns g c list marked gives told =
    let n = c.args.from in
    let is : option_map (λ d. d.0) c.find.result ≡ c.map.result = search rules in
    subst (Next (MarkedOf list marked) n) is
    (marked_next list gives.1 marked n c.find.result
    (first_from_find {steps = g.I.Iterator.next_gives} {s = c.args.channels} _ _ c.find.result (λ d. Wanted list gives.1 marked n d.0) (λ d. Wanted list gives.1 marked n d.0 → ⊥) c.find.ensures.ran (record { runs = gives.0 }) (λ x q k. search (rules, tests, told)) (λ x q k. search (rules, tests, told))))
