use Rattle.std.proofs.Common.{◌≡◌, ◌≤◌, ◌<◌, ◌*◌, ◌++◌, drop, length, refl, sym, ◌∙◌, arith, rules}
use Rattle.std.proofs.lemmas.List.{places, get_or_append_left}
use Rattle.std.proofs.lemmas.Slice.{drop-append-drop}
use Rattle.std.proofs.lemmas.Bool.{both_ways}
use Rattle.std.specs.Iterator.Adapters.{map_source}
use Rattle.rack.specs.Racks.{node_count}
use Rattle.routing.proofs.Filled.{filling_start, filling_skip, filling_host, filling_end, same_beyond}
use Rattle.routing.proofs.distances.fill_distances.Goals as goal

pub loop-host-init : goal.loop-host-init
loop-host-init c =
    let n = node_count c.args.rack.now in
    let len : length c.fill.new.self ≡ n * n = search (rules, places) in
    let start : (map_source c.into_iter-host-iterator.result).start ≡ 0 = search rules in
    let end : (map_source c.into_iter-host-iterator.result).end ≡ n = search rules in
    (search rules, search rules, end, rw start (filling_start c.args.rack.now _ (λ k h. get_or_append_left c.fill.new.self _ 0 k (omega arith) ∙ c.fill.ensures.clones k 0 (omega (arith, c.fill.ensures.len)) refl)))

pub loop-host-preserved-then-is_host : goal.loop-host-preserved-then-is_host
loop-host-preserved-then-is_host c =
    let r = c.args.rack.now in
    let h = c.in-Some.host.0 in
    let steps = c.in-Some.ensures.steps in
    let is : h ≡ (map_source c.loop-host.host-iterator).start = search rules in
    let below : h < node_count r = omega (arith, is, steps.1.1.0, c.loop-host.invariant.2) in
    let on = c.in-Some.ensures.goes.on c.loop-host.invariant.1 in
    (on.0, on.1, steps.1.0 ∙ c.loop-host.invariant.2, rw (steps.1.1.2, sym is) (filling_host r h _ c.loop-host.distances c.fill-then-is_host.new.distances (c.is_host.ensures.0 c.if-is_host.true) below c.fill-then-is_host.ensures.column c.fill-then-is_host.ensures.beside (rw is c.loop-host.invariant.3)))

pub loop-host-preserved : goal.loop-host-preserved
loop-host-preserved c =
    let r = c.args.rack.now in
    let h = c.in-Some.host.0 in
    let steps = c.in-Some.ensures.steps in
    let is : h ≡ (map_source c.loop-host.host-iterator).start = search rules in
    let on = c.in-Some.ensures.goes.on c.loop-host.invariant.1 in
    (on.0, on.1, steps.1.0 ∙ c.loop-host.invariant.2, rw (steps.1.1.2, sym is) (filling_skip r h _ c.loop-host.distances (λ host. both_ways c.is_host.result c.if-is_host.false (c.is_host.ensures.1 host)) (rw is c.loop-host.invariant.3)))

pub returns : goal.returns
returns c =
    let n = node_count c.args.rack.now in
    let same : c.node_pairs-places.result ≡ n * n = c.node_pairs-places.ensures in
    let len : length c.fill.new.self ≡ c.node_pairs-places.result = search (rules, places) in
    let x = (map_source c.loop-host.host-iterator).start in
    let all : n ≤ x = omega (arith, c.in-None.ensures.steps.0.1.0, c.loop-host.invariant.2) in
    record {
      short = λ h. absurd (omega (arith, c.if-distances-places.false));
      filled = λ h. (refl, filling_end c.args.rack.now x _ c.loop-host.distances all c.loop-host.invariant.3);
      beyond = same_beyond (n * n) c.loop-host.distances (c.fill.new.self ++ drop _ c.args.distances.now) c.loop-host.auto.distances c.loop-host.invariant.3.beyond ∙ drop-append-drop _ c.args.distances.now c.fill.new.self (n * n) (omega arith) len;
    }
