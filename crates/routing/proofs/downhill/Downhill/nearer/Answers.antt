use Rattle.std.proofs.Common.{rules, tests}
use Rattle.std.proofs.lemmas.Iterator.{YieldsList-from_slice, first_from_find}
use Rattle.std.proofs.lemmas.Iterator.Consumers.{YieldsList-from_copied}
use Rattle.routing.proofs.Sourced.{Nearer, nearest}
use Rattle.routing.proofs.downhill.Downhill.nearer.Goals as goal

pub returns : goal.returns
returns c =
    let list = c.leaving.result.now in
    let r = c.args.self.now.rack.now in
    let table = c.args.self.now.distances.now in
    let v = c.args.host.0 in
    nearest r table c.args.switch.0 v list c.leaving.ensures c.args.distance c.requires c.find.result
    (first_from_find _ _ c.find.result (Nearer r table v c.args.distance) (λ x. Nearer r table v c.args.distance x → ⊥) c.find.ensures.ran (YieldsList-from_copied (YieldsList-from_slice list cc)) (λ x q k. search (rules, tests)) (λ x q k. search (rules, tests)))
