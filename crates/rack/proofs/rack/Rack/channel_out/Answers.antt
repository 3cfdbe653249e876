use Rattle.rack.proofs.Searches.{out_of_host}
use Rattle.rack.proofs.rack.Rack.channel_out.Goals as goal

pub returns-then-is_host : goal.returns-then-is_host
returns-then-is_host c = out_of_host c.args.self.now c.args.host.0 c.next_leaving.result (c.is_host.ensures.0 c.if-is_host.true) c.next_leaving.ensures
