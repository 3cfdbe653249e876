use Rattle.rack_laws.proofs.OneAnswer.{one_answer}
use Rattle.rack_laws.proofs.files.one_answer.Goals as goal

pub returns : goal.returns
returns c = one_answer
