use Rattle.routing.proofs.Determined.{walked_or_stopped}
use Rattle.routing.proofs.laws.walked_or_stopped.Goals as goal

pub returns : goal.returns
returns c = walked_or_stopped
