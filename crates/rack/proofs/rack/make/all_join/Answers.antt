use Rattle.std.proofs.Common.{rules, tests}
use Rattle.std.proofs.lemmas.Iterator.{YieldsList-from_slice, cases_from_all}
use Rattle.rack.specs.Network.{none, JoinsPorts}
use Rattle.rack.proofs.Chains.{all_decides}
use Rattle.rack.proofs.rack.make.all_join.Goals as goal

pub returns : goal.returns
returns c =
    let cs = c.args.cables.now in
    let Joins = JoinsPorts c.args.nodes.now in
    all_decides Joins cs none c.all.result (cases_from_all _ _ c.all.result Joins (λ x. Joins x → ⊥) c.all.ensures.ran (YieldsList-from_slice cs cc) (λ x q k. search (rules, tests)) (λ x q k. search (rules, tests)))
