use Rattle.fabric.proofs.Courses.{keeps}
use Rattle.fabric.proofs.laws.calls_keep_law.Goals as goal

pub returns : goal.returns
returns c = λ s before after calls answers deep performs. keeps s deep before calls answers after performs
