use Rattle.std.proofs.Common.{◌≡◌, rules, ap}
use Rattle.std.proofs.lemmas.Bool.Decides.{same_from_decides}
use Rattle.std.proofs.lemmas.Iterator.{YieldsList-from_slice}
use Rattle.std.proofs.lemmas.Iterator.Consumers.{YieldsList-from_copied}
use Rattle.rack.specs.Racks.{head}
use Rattle.checking.proofs.Scans.{next_same, word_there, there, channel_to, channel_from}
use Rattle.checking.proofs.bare.ChannelsGraph.next_follower.Goals as goal

pub returns : goal.returns
returns c =
    let r = c.args.self.now.rack.now in
    let table = c.args.self.now.dependencies.now in
    let x = c.args.x in
    let w = c.in_ok-ends.ends.head.node.0 in
    let at : w ≡ head r x = ap (λ e. e.node.0) c.in_ok-ends.ensures.2 in
    let list = c.leaving.result.now in
    let all = c.leaving.ensures in
    next_same _ _ (channel_to r table list x w c.requires at all) (channel_from r table list x w at all) c.args.from c.first_marked.result
    (c.first_marked.ensures list (word_there r table x) ((YieldsList-from_copied (YieldsList-from_slice list cc)).runs, all.ascending) (λ d b k. same_from_decides b (word_there r table x d.0) (search rules) (there r table x d.0)))
