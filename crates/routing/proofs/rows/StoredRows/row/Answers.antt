use Rattle.routing.proofs.Lanes.{row_told}
use Rattle.routing.proofs.rows.StoredRows.row.Goals as goal

pub returns : goal.returns
returns c =
    let turn = c.in_ok-turn_port.ensures in
    row_told c.args.self.now.rack.now c.args.self.now.lanes.now _ _ _ _ turn.0 turn.1 c.row_of.ensures
