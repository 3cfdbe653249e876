use Rattle.routing.proofs.Rounds.{never_delivered}
use Rattle.routing.proofs.laws.never_delivered.Goals as goal

pub returns : goal.returns
returns c = never_delivered
