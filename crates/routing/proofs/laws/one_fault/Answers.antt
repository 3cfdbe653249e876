use Rattle.routing.proofs.Determined.{one_fault}
use Rattle.routing.proofs.laws.one_fault.Goals as goal

pub returns : goal.returns
returns c = one_fault
