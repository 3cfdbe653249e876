use Rattle.std.proofs.Common.{◌<◌, ◌≤◌, map, rules, tests}
use Rattle.std.proofs.lemmas.Iterator.{YieldsList-from_slice, YieldsList-from_map, first_from_find}
use Rattle.rack.specs.Racks.{Entering}
use Rattle.rack.proofs.Searches.{way_back, entering, first_from}
use Rattle.rack.proofs.rack.Rack.next_entering.Goals as goal

pub returns : goal.returns
returns c =
    let list = c.leaving.result.now in
    let n = c.args.from.0 in
    let r = c.args.self.now in
    let v = c.args.node.0 in
    first_from (Entering r v) (map way_back list) (entering r v list c.leaving.ensures) n c.find.result
    (first_from_find _ _ c.find.result (λ x. n ≤ x.0) (λ x. x.0 < n) c.find.ensures.ran (YieldsList-from_map _ way_back (YieldsList-from_slice list cc) c.map.ensures.closure (λ x q k m. search (rules, tests))) (λ x q k. search (rules, tests)) (λ x q k. search (rules, tests)))
