use Rattle.std.proofs.Common.{◌+◌, sym, subst}
use Rattle.up_down.specs.Sources.{tier_of}
use Rattle.up_down.proofs.Choosing.{Best, best_start, best_more, best_all}
use Rattle.up_down.proofs.source.UpDown.begin.Goals as goal

pub loop-channel-init : goal.loop-channel-init
loop-channel-init c =
    let s = c.args.self.now in
    best_start s.rack.now (tier_of s.tiers.items) c.args.receiver.0 c.args.down c.args.node.0 c.leaving-channel-items.result.now c.leaving-channel-items.ensures

pub loop-channel-preserved : goal.loop-channel-preserved
loop-channel-preserved c =
    let s = c.args.self.now in
    let list = c.leaving-channel-items.result.now in
    let i = c.loop-channel.channel-index in
    subst (Best s.rack.now (tier_of s.tiers.items) c.args.receiver.0 c.args.down c.args.node.0 list (i + 1)) (sym c.shorter-best.ensures)
    (best_more s.rack.now (tier_of s.tiers.items) c.args.receiver.0 c.args.down c.args.node.0 list c.leaving-channel-items.ensures i c.loop-channel-test.true c.loop-channel.best c.begin_by.result c.loop-channel.invariant c.begin_by.ensures)

pub returns : goal.returns
returns c =
    let s = c.args.self.now in
    best_all s.rack.now (tier_of s.tiers.items) c.args.receiver.0 c.args.down c.args.node.0 c.leaving-channel-items.result.now c.leaving-channel-items.ensures c.loop-channel.channel-index c.loop-channel-test.false c.loop-channel.best c.loop-channel.invariant
