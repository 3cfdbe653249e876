use Rattle.std.proofs.Common.{rules, ◌≡◌, ◌<◌, sym, ◌∙◌, arith}
use Rattle.std.specs.Iterator.Adapters.{map_source}
use Rattle.rack.specs.Racks.{node_count}
use Rattle.up_down.proofs.Filling.{ready_still, filling_more, filling_all}
use Rattle.up_down.proofs.source.UpDown.fill_row.Goals as goal

pub begin-begin-requires-clause-ready : goal.begin-begin-requires-clause-ready
begin-begin-requires-clause-ready c =
    let f = c.loop-receiver.invariant.3 in
    ready_still c.args.down c.args.node.0 _ c.args.self.now c.loop-receiver.self f c.requires.ready

pub loop-receiver-preserved : goal.loop-receiver-preserved
loop-receiver-preserved c =
    let old = c.args.self.now in
    let s = c.loop-receiver.self in
    let f = c.loop-receiver.invariant.3 in
    let steps = c.in-Some.ensures.steps in
    let is : c.in-Some.receiver.0 ≡ (map_source c.loop-receiver.receiver-iterator).start = search rules in
    let below : c.in-Some.receiver.0 < node_count old.rack.now = omega (arith, is, steps.1.1.0, c.loop-receiver.invariant.2) in
    let on = c.in-Some.ensures.goes.on c.loop-receiver.invariant.1 in
    let more = filling_more c.requires.given.0 c.args.down c.args.node.0 c.in-Some.receiver.0 old s c.write.new.self c.requires.given.1 c.requires.node below (rw is f) c.begin-begin.result c.place.result c.place.ensures c.write.ensures.same c.write.ensures.written c.write.ensures.other c.begin-begin.ensures in
    (on.0, on.1, steps.1.0 ∙ c.loop-receiver.invariant.2, rw (steps.1.1.2, sym is) more)

pub returns : goal.returns
returns c =
    filling_all c.args.down c.args.node.0 _ c.args.self.now c.loop-receiver.self (omega (arith, c.in-None.ensures.steps.0.1.0, c.loop-receiver.invariant.2)) c.loop-receiver.invariant.3
