use Rattle.std.proofs.Common.{◌≡◌, [], ◌∷◌, vec_items, vec_capacity, refl, arith}
use Rattle.std.proofs.lemmas.Result.{err_from_is_err_and}
use Rattle.routing.proofs.Tests.{enters_yes, enters_no, told_entered, told_left}
use Rattle.routing.proofs.Walking.{walking_start, walking_more, at_below, arrived, stopped, endless}
use Rattle.routing.proofs.walk.walk.Goals as goal

pub loop-hop-init : goal.loop-hop-init
loop-hop-init g c =
    let told = c.in_ok-at.ensures in
    let alone : vec_items c.push.new.self ≡ c.in_ok-at.at ∷ [] = rw c.clear.ensures.items at c.in_ok-push.ensures.items in
    ((_, walking_start _ _ _ _ c.in_ok-at.at _ alone told.0 told.1 told.2), omega arith)

pub arrive-requires : goal.arrive-requires
arrive-requires g c = at_below _ _ _ _ _ _ _ _ c.loop-hop.invariant.0.1

pub returns-then-is_none : goal.returns-then-is_none
returns-then-is_none g c =
    let left = told_left c.args.plan.now.rack.now _ _ c.switch_entered.ensures c.if-is_none.ensures in
    record { answer = arrived _ _ _ _ _ _ _ _ c.loop-hop.invariant.0.1 _ _ _ refl (omega arith) left c.arrive.ensures; listed = c.loop-hop.invariant.0.1.lists; room = omega arith }

pub returns-in_err-at-2 : goal.returns-in_err-at-2
returns-in_err-at-2 g c =
    let entered = told_entered c.args.plan.now.rack.now _ _ c.switch_entered.ensures c.if-is_none.ensures in
    let q = err_from_is_err_and c.from_residual-in_err-at-2.result c.from_residual-in_err-at-2.ensures.1 in
    record { answer = rw (q.1, q.2) (stopped _ _ _ _ _ _ _ _ c.loop-hop.invariant.0.1 _ _ c.in_err-at-2.field-0.0 (omega arith) (omega arith) entered c.in_err-at-2.ensures); listed = c.loop-hop.invariant.0.1.lists; room = omega arith }

pub loop-hop-preserved : goal.loop-hop-preserved
loop-hop-preserved g c =
    let told = c.in_ok-at-2.ensures in
    let entered = told_entered c.args.plan.now.rack.now _ _ c.switch_entered.ensures c.if-is_none.ensures in
    ((_, walking_more _ _ _ _ _ _ _ _ c.loop-hop.invariant.0.1 c.in_ok-at-2.at _ _ c.in_ok-push-2.ensures.items (omega arith) entered told.0 told.1 told.2 told.3), omega arith)

pub arrive-requires-in-None : goal.arrive-requires-in-None
arrive-requires-in-None g c = at_below _ _ _ _ _ _ _ _ c.loop-hop.invariant.0.1

pub returns-in-Some : goal.returns-in-Some
returns-in-Some g c =
    let end : c.loop-hop.hop ≡ c.channel_count-count.result = omega (arith, c.loop-hop.auto.hop-end (omega arith)) in
    record { answer = endless _ _ _ _ _ _ _ _ c.loop-hop.invariant.0.1 (vec_capacity c.args.path.now) _ (omega arith) c.channel_count-count.ensures.0 (enters_yes c.args.plan.now.rack.now _ _ c.in-Some.ensures); listed = c.loop-hop.invariant.0.1.lists; room = omega arith }

pub returns-in-None : goal.returns-in-None
returns-in-None g c =
    let end : c.loop-hop.hop ≡ c.channel_count-count.result = omega (arith, c.loop-hop.auto.hop-end (omega arith)) in
    record { answer = arrived _ _ _ _ _ _ _ _ c.loop-hop.invariant.0.1 _ _ _ (omega arith) (omega arith) (enters_no c.args.plan.now.rack.now _ c.in-None.ensures) c.arrive-in-None.ensures; listed = c.loop-hop.invariant.0.1.lists; room = omega arith }

pub returns-in_err-push-2-clause-listed : goal.returns-in_err-push-2-clause-listed
returns-in_err-push-2-clause-listed g c = rw c.in_err-push-2.ensures.items c.loop-hop.invariant.0.1.lists
