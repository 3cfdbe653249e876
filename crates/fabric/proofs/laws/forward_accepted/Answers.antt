use Rattle.fabric.proofs.Determined.{forward_accepted}
use Rattle.fabric.proofs.laws.forward_accepted.Goals as goal

pub returns : goal.returns
returns c = forward_accepted
