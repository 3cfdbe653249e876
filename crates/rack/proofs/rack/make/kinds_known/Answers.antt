use Rattle.std.proofs.Common.{◌≤◌, rules, tests}
use Rattle.std.proofs.lemmas.Iterator.{YieldsList-from_slice, cases_from_all}
use Rattle.rack.proofs.Chains.{all_decides}
use Rattle.rack.proofs.rack.make.kinds_known.Goals as goal

pub returns : goal.returns
returns c =
    let ns = c.args.nodes.now in
    all_decides (λ x. (1 ≤ x) × (x ≤ 2)) ns 0 c.all.result (cases_from_all _ _ c.all.result (λ x. (1 ≤ x) × (x ≤ 2)) (λ x. (1 ≤ x) × (x ≤ 2) → ⊥) c.all.ensures.ran (YieldsList-from_slice ns cc) (λ x q k. search (rules, tests)) (λ x q k. search (rules, tests)))
