use Rattle.up_down.proofs.Accepting.{up_down_accepted}
use Rattle.up_down.proofs.laws.up_down_accepted.Goals as goal

pub returns : goal.returns
returns c = up_down_accepted
