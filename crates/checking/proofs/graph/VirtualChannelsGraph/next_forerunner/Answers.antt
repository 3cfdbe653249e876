use Rattle.std.proofs.Common.{◌≡◌, ◌/◌, map, ap, rules}
use Rattle.std.proofs.lemmas.Iterator.{YieldsList-from_slice, YieldsList-from_map}
use Rattle.rack.specs.Racks.{tail}
use Rattle.rack.proofs.Searches.{way_back, entering}
use Rattle.checking.specs.Words.{word_of}
use Rattle.checking.proofs.Scans.{next_same, forerunner_to, forerunner_from}
use Rattle.checking.proofs.graph.VirtualChannelsGraph.next_forerunner.Goals as goal

pub returns : goal.returns
returns c =
    let r = c.args.self.now.rack.now in
    let table = c.args.self.now.dependencies.now in
    let y = c.args.y in
    let w = c.in_ok-ends.ends.tail.node.0 in
    let at : w ≡ tail r (y / 8) = ap (λ e. e.node.0) c.in_ok-ends.ensures.1 in
    let list = c.leaving.result.now in
    let backs = map way_back list in
    let all = entering r w list c.leaving.ensures in
    next_same _ _ (forerunner_to r table backs y w c.requires all) (forerunner_from r table backs y w at all) c.args.from c.first_set.result
    (c.first_set.ensures backs (λ c. word_of r table c (y / 8)) ((YieldsList-from_map _ way_back (YieldsList-from_slice list cc) c.map-channels.ensures.closure (λ x q k m. search rules)).runs, all.ascending) (λ d n k. search rules))
