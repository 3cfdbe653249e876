use Rattle.routing.proofs.Rounds.{never_ends}
use Rattle.routing.proofs.laws.never_ends.Goals as goal

pub returns : goal.returns
returns c = never_ends
