use Rattle.std.proofs.Common.{◌≤◌, true}
use Rattle.up_down.specs.Tables.{places, Same}
use Rattle.up_down.proofs.Passing.{Rows}
use Rattle.up_down.proofs.source.UpDown.fill_falling.Given as goal

abbrev pub invariant-loop-at : goal.invariant-loop-at
invariant-loop-at l = Same l.initial.self l.self × Rows l.initial.self l.self true (λ k. l.at ≤ k) × (l.at ≤ places l.initial.self.rack.now)

abbrev pub decreases-loop-at : goal.decreases-loop-at
decreases-loop-at l = l.at
