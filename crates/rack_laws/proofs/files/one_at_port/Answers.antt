use Rattle.rack_laws.proofs.HostCables.{one_at_port}
use Rattle.rack_laws.proofs.files.one_at_port.Goals as goal

pub returns : goal.returns
returns c = one_at_port
