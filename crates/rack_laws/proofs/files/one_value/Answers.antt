use Rattle.rack_laws.proofs.OneValue.{one_value}
use Rattle.rack_laws.proofs.files.one_value.Goals as goal

pub returns : goal.returns
returns c = one_value
