use Rattle.routing.proofs.Determined.{one_path}
use Rattle.routing.proofs.laws.one_path.Goals as goal

pub returns : goal.returns
returns c = one_path
