use Rattle.builder.specs.Method.{channels_of}
use Rattle.builder.proofs.Fitting.{Claiming}
use Rattle.builder.proofs.turns.claim_all.Given as goal

abbrev pub invariant-loop-j : goal.invariant-loop-j
invariant-loop-j l = Claiming l.rack (channels_of l.path) l.level.number l.j l.initial.lanes l.lanes
