use Rattle.std.proofs.Common.{arith}
use Rattle.routing.proofs.PairOrder.{before_row, before_more, before_all, first_left}
use Rattle.routing.proofs.pairs.Pairs.next_pair.Goals as goal

pub loop-u-init : goal.loop-u-init
loop-u-init c = before_row c.args.self.now.rack.now c.args.self.now.from c.node_count-nodes.result c.in_ok-u.u c.node_count-nodes.ensures.0 c.in_ok-u.ensures.1

pub loop-u-preserved : goal.loop-u-preserved
loop-u-preserved c = before_more c.args.self.now.rack.now c.args.self.now.from c.loop-u.u c.loop-u.invariant c.in_default.ensures

pub returns-in-Some : goal.returns-in-Some
returns-in-Some c = first_left c.args.self.now.rack.now c.args.self.now.from c.loop-u.u c.in-Some.pair c.loop-u.invariant c.in-Some.ensures

pub returns : goal.returns
returns c = before_all c.args.self.now.rack.now c.args.self.now.from c.loop-u.u (omega (arith, c.node_count-nodes.ensures.0)) c.loop-u.invariant
