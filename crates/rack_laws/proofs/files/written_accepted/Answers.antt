use Rattle.rack_laws.proofs.WrittenFile.{written_accepted}
use Rattle.rack_laws.proofs.files.written_accepted.Goals as goal

pub returns : goal.returns
returns c = written_accepted
