use Rattle.rack_laws.proofs.HostCables.{one_way_out}
use Rattle.rack_laws.proofs.files.one_way_out.Goals as goal

pub returns : goal.returns
returns c = one_way_out
