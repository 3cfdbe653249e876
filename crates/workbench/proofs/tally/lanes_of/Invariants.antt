use Rattle.workbench.specs.Tallies.{OneAbove}
use Rattle.workbench.proofs.Tallying.{LaneBefore}
use Rattle.workbench.proofs.tally.lanes_of.Given as goal

abbrev pub invariant-loop-step : goal.invariant-loop-step
invariant-loop-step l = OneAbove (LaneBefore l.path l.step-index) l.lanes
