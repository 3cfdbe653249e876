use Rattle.std.proofs.Common.{subst, arith}
use Rattle.workbench.proofs.FilledRows.{Filled, filled_all}
use Rattle.workbench.proofs.two_hop.fill_two_hop.Goals as goal

pub returns-clause-rows : goal.returns-clause-rows
returns-clause-rows c = subst (Filled c.args.rack.now c.loop-channel.lanes) (omega (arith, c.loop-channel-test.false, c.channel_count-channel-end.ensures)) c.loop-channel.invariant.1

pub returns-clause-map : goal.returns-clause-map
returns-clause-map c =
    filled_all c.args.rack.now c.loop-channel.lanes (omega (arith, c.requires, c.loop-channel.invariant.0))
    (subst (Filled c.args.rack.now c.loop-channel.lanes) (omega (arith, c.loop-channel-test.false, c.channel_count-channel-end.ensures)) c.loop-channel.invariant.1)
