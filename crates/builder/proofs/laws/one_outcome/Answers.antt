use Rattle.builder.proofs.Single.{one_outcome}
use Rattle.builder.proofs.laws.one_outcome.Goals as goal

pub returns : goal.returns
returns c = one_outcome
