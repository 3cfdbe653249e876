use Rattle.builder.specs.Method.{channels_of}
use Rattle.builder.proofs.Fitting.{Fitting}
use Rattle.builder.proofs.turns.fits.Given as goal

abbrev pub invariant-loop-j : goal.invariant-loop-j
invariant-loop-j l = Fitting l.rack l.lanes (channels_of l.path) l.level.number l.j
