use Rattle.fabric.proofs.Listed.{listed_on, on_listed}
use Rattle.fabric.proofs.laws.path_listed.Goals as goal

pub returns : goal.returns
returns c = λ s p i x pair low. (listed_on s p pair i x, on_listed s p pair i x low)
