use Rattle.workbench.proofs.NamingRoots.{no_task}
use Rattle.workbench.proofs.arguments.Task.of_words.Goals as goal

pub returns-in_err-root_in-in-dry : goal.returns-in_err-root_in-in-dry
returns-in_err-root_in-in-dry c = rw c.from_residual-in_err-root_in-in-dry.ensures (no_task c.args.words.now _ c.in-dry.is-dry c.in-dry.is-text c.in-dry.len_at_least (rw c.in_err-root_in-in-dry.was at c.root_in.ensures))
