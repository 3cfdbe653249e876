use Rattle.workbench.proofs.Rooted.{accepted_over_root}
use Rattle.workbench.proofs.laws.accepted_over_root.Goals as goal

pub returns : goal.returns
returns c = accepted_over_root
