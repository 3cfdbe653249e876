use Rattle.std.proofs.Common.{◌*◌, length, None, rules, tests, ap, ◌∙◌, arith}
use Rattle.std.proofs.lemmas.List.{length-set, length-replicate}
use Rattle.rack.specs.Index.{port_place}
use Rattle.rack.proofs.Ports.{ported_none, ported_more, place_low}
use Rattle.rack.proofs.rack.make.port_channels.Goals as goal

pub loop-number-init : goal.loop-number-init
loop-number-init c =
    let n = 37 * length c.args.nodes.now in
    let is = c.in_ok-ports.ensures.items_if_clones_equal (λ y h. search (rules, tests)) in
    record { long = ap length is ∙ length-replicate n None; placed = ported_none c.args.cables.now c.in_ok-ports.ports.items n is }

pub loop-number-preserved : goal.loop-number-preserved
loop-number-preserved c =
    let nodes = c.args.nodes.now in
    let cs = c.args.cables.now in
    let n = c.loop-number.number in
    let old = c.loop-number.invariant in
    let is = c.port_place.ensures ∙ ap port_place c.ends.ensures.tail in
    record {
      long = length-set c.loop-number.ports.items c.port_place.result _ ∙ old.long;
      placed = ported_more nodes cs c.requires c.loop-number.ports.items n c.port_place.result (omega (arith, old.long, is, place_low nodes cs c.requires n (omega arith))) (omega arith) is old.placed;
    }

pub returns : goal.returns
returns c =
    let all = c.loop-number.invariant in
    (all.long, λ b h. all.placed.at b (omega arith), λ k b some. let there = all.placed.only k b some in (omega (arith, there.0), there.1))
