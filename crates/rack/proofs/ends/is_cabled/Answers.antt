use Rattle.std.proofs.Common.{rules, tests}
use Rattle.std.proofs.lemmas.Iterator.{YieldsList-from_slice, cases_from_any}
use Rattle.rack.proofs.Chains.{EndsAtNode, cabled_from_any}
use Rattle.rack.proofs.ends.is_cabled.Goals as goal

pub returns : goal.returns
returns c =
    let cs = c.args.cables.now in
    let v = c.args.node in
    cabled_from_any cs v c.any.result (cases_from_any _ _ c.any.result (EndsAtNode v) (λ x. EndsAtNode v x → ⊥) c.any.ensures.ran (YieldsList-from_slice cs cc) (λ x q k. search (rules, tests)) (λ x q k. search (rules, tests)))
