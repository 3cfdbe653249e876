use Rattle.std.proofs.Common.{take, rules, tests}
use Rattle.std.proofs.lemmas.Bool.Decides.{Decides-like}
use Rattle.std.proofs.lemmas.Iterator.{YieldsList-from_slice, cases_from_all}
use Rattle.std.proofs.lemmas.Iterator.Consumers.{YieldsList-from_enumerate}
use Rattle.rack.specs.Network.{none}
use Rattle.rack.proofs.Chains.{all_numbered_decides}
use Rattle.rack.proofs.Channels.{IsFree, apart_from_free, free_from_apart}
use Rattle.rack.proofs.rack.make.all_apart.Goals as goal

pub returns : goal.returns
returns c =
    let cs = c.args.cables.now in
    Decides-like c.all.result (apart_from_free cs c.requires) (free_from_apart cs)
    (all_numbered_decides (λ k cable. IsFree (take k cs) cable) cs none c.all.result
    (cases_from_all _ _ c.all.result (λ p. IsFree (take p.0 cs) p.1) (λ p. IsFree (take p.0 cs) p.1 → ⊥) c.all.ensures.ran (YieldsList-from_enumerate (YieldsList-from_slice cs cc) cc) (λ x q k. search (rules, tests)) (λ x q k. search (rules, tests))))
