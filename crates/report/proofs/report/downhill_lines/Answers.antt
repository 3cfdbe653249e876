use Rattle.std.proofs.Common.{◌≡◌, ◌*◌, ◌≤◌, length, sym, refl, ap, subst, arith}
use Rattle.std.proofs.lemmas.Result.{MatchResult-weaker}
use Rattle.rack.specs.Racks.{node_count}
use Rattle.routing.specs.Sources.{downhill_route}
use Rattle.routing.specs.Ways.{Distances}
use Rattle.report.specs.Reports.{DownhillRouted}
use Rattle.report.proofs.Outcomes.{written, lack_from}
use Rattle.report.proofs.report.downhill_lines.Goals as goal

pub returns : goal.returns
returns c =
    let r = c.args.rack.now in
    let v = c.in_ok-distances.distances in
    let last = c.fill_distances.new.distances in
    let now = c.deref.result.now in
    let same : now ≡ last = written v.items c.deref.ensures.value (omega arith) in
    let long : node_count r * node_count r ≤ length c.deref_mut.result.now = omega (arith, c.node_pairs.ensures, c.in_ok-distances.ensures.len, c.deref_mut.ensures.len) in
    let route = downhill_route r now in
    let downhill : DownhillRouted r route = (now, omega (arith, ap length same, long, c.fill_distances.auto.distances), subst (Distances r) (sym same) (c.fill_distances.ensures.filled long).1, refl) in
    MatchResult-weaker c.source_lines.result c.source_lines.ensures (λ s t. (route, downhill, t)) (λ f l. lack_from r route (DownhillRouted r) f downhill l)
