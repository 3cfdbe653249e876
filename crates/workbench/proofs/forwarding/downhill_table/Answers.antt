use Rattle.std.proofs.Common.{◌≡◌, ◌*◌, ◌≤◌, ◌++◌, length, take, drop, refl, sym, arith, subst}
use Rattle.rack.specs.Racks.{node_count}
use Rattle.routing.specs.Sources.{downhill_route}
use Rattle.report.proofs.Outcomes.{written}
use Rattle.workbench.specs.RackFiles.{AnswersAs}
use Rattle.workbench.proofs.forwarding.downhill_table.Goals as goal

pub returns : goal.returns
returns c =
    let r = c.args.rack.now in
    let n = node_count r in
    let distances = c.fill_distances.new.distances in
    let table = c.fill_rows.new.table in
    let d : c.deref.result.now ≡ distances = written c.in_ok-distances.distances.items c.deref.ensures.value (omega (arith, c.fill_distances.auto.distances, c.deref_mut.ensures.len)) in
    let t : take c.in_ok-table.table.len (table ++ drop (length table) c.in_ok-table.table.items) ≡ table = written c.in_ok-table.table.items refl (omega (arith, c.fill_rows.auto.table, c.deref_mut-2.ensures.len)) in
    let long : n * n ≤ length distances = omega (arith, c.fill_distances.auto.distances, c.deref_mut.ensures.len, c.in_ok-distances.ensures.len, c.node_pairs.ensures) in
    let given : n * n ≤ length c.deref_mut.result.now = omega (arith, c.deref_mut.ensures.len, c.in_ok-distances.ensures.len, c.node_pairs.ensures) in
    (downhill_route r distances, (distances, long, (c.fill_distances.ensures.filled given).1, refl), subst (λ x. AnswersAs r x (downhill_route r distances)) (sym t) (rw d at c.fill_rows.ensures))
