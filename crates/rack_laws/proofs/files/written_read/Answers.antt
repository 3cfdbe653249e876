use Rattle.rack_laws.proofs.WrittenFile.{written_read}
use Rattle.rack_laws.proofs.files.written_read.Goals as goal

pub returns : goal.returns
returns c = written_read
