use Rattle.std.proofs.Common.{◌/◌, rules}
use Rattle.std.proofs.lemmas.Iterator.{YieldsList-from_slice}
use Rattle.std.proofs.lemmas.Iterator.Consumers.{YieldsList-from_copied}
use Rattle.checking.specs.Words.{word_of}
use Rattle.checking.proofs.Scans.{next_same, follower_to, follower_from}
use Rattle.checking.proofs.graph.VirtualChannelsGraph.next_follower.Goals as goal

pub returns : goal.returns
returns c =
    let r = c.args.self.now.rack.now in
    let table = c.args.self.now.dependencies.now in
    let x = c.args.x in
    let w = c.in_ok-switch.switch.0 in
    let list = c.leaving.result.now in
    let all = c.leaving.ensures in
    next_same _ _ (follower_to r table list x w c.requires all) (follower_from r table list x w c.in_ok-switch.ensures all) c.args.from c.first_set.result
    (c.first_set.ensures list (word_of r table (x / 8)) ((YieldsList-from_copied (YieldsList-from_slice list cc)).runs, all.ascending) (λ d n k. search rules))
