use Rattle.std.proofs.Common.{◌<◌, ◌≤◌, rules, tests}
use Rattle.std.proofs.lemmas.Iterator.{YieldsList-from_slice, first_from_find}
use Rattle.std.proofs.lemmas.Iterator.Consumers.{YieldsList-from_copied}
use Rattle.rack.specs.Racks.{Leaving}
use Rattle.rack.proofs.Searches.{first_from}
use Rattle.rack.proofs.rack.Rack.next_leaving.Goals as goal

pub returns : goal.returns
returns c =
    let list = c.leaving.result.now in
    let n = c.args.from.0 in
    first_from (Leaving c.args.self.now c.args.node.0) list c.leaving.ensures n c.find.result
    (first_from_find _ _ c.find.result (λ x. n ≤ x.0) (λ x. x.0 < n) c.find.ensures.ran (YieldsList-from_copied (YieldsList-from_slice list cc)) (λ x q k. search (rules, tests)) (λ x q k. search (rules, tests)))
