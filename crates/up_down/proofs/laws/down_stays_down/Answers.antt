use Rattle.up_down.proofs.Ordering.{stays_down}
use Rattle.up_down.proofs.laws.down_stays_down.Goals as goal

pub returns : goal.returns
returns c = λ g root over. stays_down g over.tier over.names
