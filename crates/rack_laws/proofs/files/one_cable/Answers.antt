use Rattle.rack_laws.proofs.HostCables.{one_cable}
use Rattle.rack_laws.proofs.files.one_cable.Goals as goal

pub returns : goal.returns
returns c = one_cable
