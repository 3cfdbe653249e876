use Rattle.up_down.specs.Sources.{tier_of}
use Rattle.up_down.proofs.Choosing.{Best}
use Rattle.up_down.proofs.source.UpDown.begin.Given as goal

abbrev pub invariant-loop-channel : goal.invariant-loop-channel
invariant-loop-channel l = Best l.self.rack.now (tier_of l.self.tiers.items) l.fn.receiver.0 l.fn.down l.fn.node.0 l.channel-items l.channel-index l.best
