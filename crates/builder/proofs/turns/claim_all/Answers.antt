use Rattle.std.proofs.Common.{◌-◌, ◌<◌, length, arith}
use Rattle.builder.specs.Method.{channels_of}
use Rattle.builder.proofs.Fitting.{as_long, middle_at, turn_at, claim_at, claiming_more, claiming_end}
use Rattle.builder.proofs.Rows.{rows_apart}
use Rattle.builder.proofs.turns.claim_all.Goals as goal

pub claim-requires-clause-turn : goal.claim-requires-clause-turn
claim-requires-clause-turn c = turn_at c.args.rack.now c.args.path.now c.loop-j.j _ _ c.loop-j.auto.j (omega arith) c.requires.passes

pub loop-j-preserved : goal.loop-j-preserved
loop-j-preserved c =
    let r = c.args.rack.now in
    let steps = c.args.path.now in
    let s = c.args.level.number in
    let j = c.loop-j.j in
    let last : j < length steps - 2 = omega arith in
    let middle = middle_at r steps j c.index-path-j.result c.index-path-j-in-loop-j.result c.loop-j.auto.j last in
    let own = rw c.unwrap-lane.ensures at c.new.ensures in
    let e = claim_at r steps j c.index-path-j.result c.index-path-j-in-loop-j.result c.loop-j.auto.j last c.loop-j.lanes c.claim.new.lanes s c.unwrap-lane.result.number own c.claim.ensures in
    rw e (claiming_more r (channels_of steps) s rows_apart c.requires.passes (omega arith) j c.args.lanes.now c.loop-j.lanes middle (omega arith) c.loop-j.invariant)

pub returns : goal.returns
returns c = claiming_end _ _ _ _ _ _ (omega (arith, as_long c.args.path.now)) c.loop-j.invariant
