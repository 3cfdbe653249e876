use Rattle.std.proofs.Common.{rules, tests}
use Rattle.std.proofs.lemmas.Iterator.{YieldsList-from_slice, IsFirst-from_position}
use Rattle.rack.specs.Network.{EndsAt}
use Rattle.rack.proofs.Chains.{cable_from_position}
use Rattle.rack.proofs.ends.cable_at.Goals as goal

pub returns : goal.returns
returns c =
    let cs = c.args.cables.now in
    let e = c.args.end in
    cable_from_position cs e c.position.result (IsFirst-from_position _ _ c.position.result (λ x. EndsAt x e) (λ x. EndsAt x e → ⊥) c.position.ensures.ran (YieldsList-from_slice cs cc) (λ x q k. search (rules, tests)) (λ x q k. search (rules, tests)))
