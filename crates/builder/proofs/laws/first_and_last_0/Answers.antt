use Rattle.builder.proofs.Ends.{first_and_last_0}
use Rattle.builder.proofs.laws.first_and_last_0.Goals as goal

pub returns : goal.returns
returns c = first_and_last_0
