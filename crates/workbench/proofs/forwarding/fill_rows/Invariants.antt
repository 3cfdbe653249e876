use Rattle.std.proofs.Common.{◌≡◌, length}
use Rattle.workbench.proofs.Downhills.{RowsBelow}
use Rattle.workbench.proofs.forwarding.fill_rows.Given as goal

abbrev pub invariant-loop-switch : goal.invariant-loop-switch
invariant-loop-switch l =
    (length l.table ≡ length l.initial.table) × RowsBelow l.fn.source.rack.now l.fn.source.distances.now l.table l.switch
