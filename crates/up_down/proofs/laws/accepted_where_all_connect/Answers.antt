use Rattle.up_down.proofs.Accepting.{accepted_where_all_connect}
use Rattle.up_down.proofs.laws.accepted_where_all_connect.Goals as goal

pub returns : goal.returns
returns c = accepted_where_all_connect
