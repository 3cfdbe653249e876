use Rattle.std.proofs.Common.{◌≡◌, length}
use Rattle.workbench.proofs.FilledRows.{Filled}
use Rattle.workbench.proofs.two_hop.fill_two_hop.Given as goal

abbrev pub invariant-loop-channel : goal.invariant-loop-channel
invariant-loop-channel l = (length l.lanes ≡ length l.initial.lanes) × Filled l.fn.rack l.lanes l.channel
