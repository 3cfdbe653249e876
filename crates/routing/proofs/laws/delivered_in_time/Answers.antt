use Rattle.routing.proofs.Rounds.{delivered_in_time}
use Rattle.routing.proofs.laws.delivered_in_time.Goals as goal

pub returns : goal.returns
returns c = delivered_in_time
