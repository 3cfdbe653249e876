use Rattle.routing.proofs.Rounds.{no_channel_twice}
use Rattle.routing.proofs.laws.no_channel_twice.Goals as goal

pub returns : goal.returns
returns c = no_channel_twice
