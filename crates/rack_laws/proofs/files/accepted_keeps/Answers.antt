use Rattle.reading.proofs.KeptRules.{accepted_keeps}
use Rattle.rack_laws.proofs.files.accepted_keeps.Goals as goal

pub returns : goal.returns
returns c = accepted_keeps
