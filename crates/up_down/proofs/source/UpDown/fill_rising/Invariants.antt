use Rattle.std.proofs.Common.{◌<◌, true, false}
use Rattle.up_down.specs.Tables.{Same}
use Rattle.up_down.proofs.Passing.{Rows}
use Rattle.up_down.proofs.source.UpDown.fill_rising.Given as goal

abbrev pub invariant-loop-at : goal.invariant-loop-at
invariant-loop-at l = Same l.initial.self l.self × Rows l.initial.self l.self true (λ k. Unit {0}) × Rows l.initial.self l.self false (λ k. k < l.at)
