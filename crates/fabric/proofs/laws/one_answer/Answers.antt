use Rattle.fabric.proofs.Determined.{one_answer}
use Rattle.fabric.proofs.laws.one_answer.Goals as goal

pub returns : goal.returns
returns c = one_answer
