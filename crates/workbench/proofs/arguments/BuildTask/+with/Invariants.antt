use Rattle.std.proofs.Common.{length}
use Rattle.workbench.proofs.arguments.BuildTask.+with.Given as goal

abbrev pub decreases-with : goal.decreases-with
decreases-with l = length l.words.now
