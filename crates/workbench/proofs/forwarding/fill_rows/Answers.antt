use Rattle.std.proofs.Common.{◌≡◌, ◌+◌, ◌-◌, ◌*◌, ◌≤◌, length, ◌∙◌, arith, subst, length-take, length-drop}
use Rattle.rack.specs.Racks.{node_count}
use Rattle.workbench.proofs.Downhills.{RowsBelow, row_inside, rows_more, rows_skip, rows_all}
use Rattle.workbench.proofs.forwarding.fill_rows.Goals as goal
use Rattle.workbench.proofs.forwarding.fill_rows.Goals.{in-Some, in_default}

pub loop-switch-preserved : goal.loop-switch-preserved
loop-switch-preserved c =
    let r = c.args.source.now.rack.now in
    let distances = c.args.source.now.distances.now in
    let n = node_count r in
    let w = c.loop-switch.switch in
    let table = c.loop-switch.table in
    let count : c.node_count-nodes.result ≡ n = c.node_count-nodes.ensures.0 in
    let long : length table ≡ n * n = c.loop-switch.invariant.0 ∙ c.requires in
    let inside : n * w + n ≤ n * n = row_inside n w (omega (arith, c.loop-switch-test.true, count)) in
    elim c.match-channel_into.branch [
      | in-Some b ↦ (
        c.match-channel_into.auto.table ∙ c.loop-switch.invariant.0,
        rows_more r distances table b.fill_row.new.row c.match-channel_into.table w b.in-Some.arriving.0 (n * w + n - n * w) b.in-Some.ensures (rw count at b.table-is) (omega (arith, inside, long))
            (b.fill_row.ensures.long ∙ rw count (simp (length-take, length-drop) (omega (arith, inside, long)))) b.fill_row.ensures.answers c.loop-switch.invariant.1,
      )
      | in_default b ↦ (c.match-channel_into.auto.table ∙ c.loop-switch.invariant.0, rw (b.table-is) (rows_skip r distances table w b.in_default.ensures c.loop-switch.invariant.1))
    ]

pub returns : goal.returns
returns c =
    let source = c.args.source.now in
    rows_all source.rack.now source.distances.now c.loop-switch.table
    (subst (RowsBelow source.rack.now source.distances.now c.loop-switch.table) (omega (arith, c.loop-switch-test.false, c.node_count-nodes.ensures)) c.loop-switch.invariant.1)
