use Rattle.rack.proofs.Facts as facts
use Rattle.rack_laws.proofs.racks.ways_back.Goals as goal

pub returns : goal.returns
returns c = facts.ways_back
