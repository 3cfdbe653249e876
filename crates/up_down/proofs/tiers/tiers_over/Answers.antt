use Rattle.std.proofs.Common.{rules, ◌≡◌, ◌≤◌, ◌<◌, sym, ◌∙◌, arith}
use Rattle.std.specs.Iterator.Adapters.{map_source}
use Rattle.rack.specs.Racks.{node_count}
use Rattle.rack.proofs.Facts.{switch_below}
use Rattle.up_down.proofs.Tiering.{read, tiering_push, tiering_all, unreached}
use Rattle.up_down.proofs.tiers.tiers_over.Goals as goal

pub returns-then-tier : goal.returns-then-tier
returns-then-tier c =
    let r = c.args.rack.now in
    let root = c.args.root.0 in
    let w = c.in-Some.node.0 in
    let found = c.in_ok-distances.ensures in
    let steps = c.in-Some.ensures.steps in
    let is : w ≡ (map_source c.loop-node.node-iterator).start = search rules in
    let below : w < node_count r = omega (arith, is, steps.1.1.0, c.loop-node.invariant.2) in
    let far_is = read (node_count r) root _ w _ _ below (switch_below r root c.requires) found.room c.place.ensures c.index-tier.ensures in
    let so = unreached r root _ found.column w c.loop-node.tiers.items below (sym far_is ∙ c.if-tier.true) (rw is c.loop-node.invariant.3) in
    (c.requires, below, so.0, so.1)

pub loop-node-preserved : goal.loop-node-preserved
loop-node-preserved c =
    let r = c.args.rack.now in
    let root = c.args.root.0 in
    let w = c.in-Some.node.0 in
    let t = c.index-tier.result.now in
    let found = c.in_ok-distances.ensures in
    let steps = c.in-Some.ensures.steps in
    let is : w ≡ (map_source c.loop-node.node-iterator).start = search rules in
    let below : w < node_count r = omega (arith, is, steps.1.1.0, c.loop-node.invariant.2) in
    let on = c.in-Some.ensures.goes.on c.loop-node.invariant.1 in
    let far_is = read (node_count r) root _ w _ t below (switch_below r root c.requires) found.room c.place.ensures c.index-tier.ensures in
    let small : t < 255 = omega (arith, far_is, (found.column w below).small, c.if-tier.false) in
    (on.0, on.1, steps.1.0 ∙ c.loop-node.invariant.2, rw (steps.1.1.2, sym is, c.in_ok-push.ensures.items) (tiering_push (node_count r) root _ w t _ below far_is small (rw is c.loop-node.invariant.3)))

pub returns : goal.returns
returns c =
    let x = (map_source c.loop-node.node-iterator).start in
    let all : node_count c.args.rack.now ≤ x = omega (arith, c.in-None.ensures.steps.0.1.0, c.loop-node.invariant.2) in
    tiering_all c.args.rack.now c.args.root.0 _ c.in_ok-distances.ensures.column x c.loop-node.tiers.items all c.loop-node.invariant.3
