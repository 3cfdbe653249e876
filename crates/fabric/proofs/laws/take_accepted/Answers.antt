use Rattle.fabric.proofs.Determined.{take_accepted}
use Rattle.fabric.proofs.laws.take_accepted.Goals as goal

pub returns : goal.returns
returns c = take_accepted
