use Rattle.courses.proofs.Kept.{keeps_law}
use Rattle.courses.proofs.courses_keep_law.Goals as goal

pub returns : goal.returns
returns g c = keeps_law _
