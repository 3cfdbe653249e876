use Rattle.routing.proofs.Determined.{stopped_undelivered}
use Rattle.routing.proofs.laws.stopped_undelivered.Goals as goal

pub returns : goal.returns
returns c = stopped_undelivered
