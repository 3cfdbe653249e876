use Rattle.reading.proofs.KeptRules.{ports_apart}
use Rattle.rack_laws.proofs.files.ports_apart.Goals as goal

pub returns : goal.returns
returns c = ports_apart
