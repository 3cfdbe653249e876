use Rattle.std.proofs.Common.{◌≡◌, map, rules, ap}
use Rattle.std.proofs.lemmas.Bool.Decides.{same_from_decides}
use Rattle.std.proofs.lemmas.Iterator.{YieldsList-from_slice, YieldsList-from_map}
use Rattle.rack.specs.Racks.{tail}
use Rattle.rack.proofs.Searches.{way_back, entering}
use Rattle.checking.proofs.Scans.{next_same, word_there, there, channel_back_to, channel_back_from}
use Rattle.checking.proofs.bare.ChannelsGraph.next_forerunner.Goals as goal

pub returns : goal.returns
returns c =
    let r = c.args.self.now.rack.now in
    let table = c.args.self.now.dependencies.now in
    let y = c.args.y in
    let w = c.in_ok-ends.ends.tail.node.0 in
    let at : w ≡ tail r y = ap (λ e. e.node.0) c.in_ok-ends.ensures.1 in
    let list = c.leaving.result.now in
    let backs = map way_back list in
    let all = entering r w list c.leaving.ensures in
    next_same _ _ (channel_back_to r table backs y w c.requires at all) (channel_back_from r table backs y w at all) c.args.from c.first_marked.result
    (c.first_marked.ensures backs (λ d. word_there r table d y) ((YieldsList-from_map _ way_back (YieldsList-from_slice list cc) c.map-channels.ensures.closure (λ x q k m. search rules)).runs, all.ascending) (λ d b k. same_from_decides b (word_there r table d.0 y) (search rules) (there r table d.0 y)))
