use Rattle.rack_laws.proofs.WrittenFile.{files_give_racks}
use Rattle.rack_laws.proofs.files.files_give_racks.Goals as goal

pub returns : goal.returns
returns c = files_give_racks
