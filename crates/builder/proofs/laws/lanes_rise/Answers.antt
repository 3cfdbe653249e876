use Rattle.builder.proofs.Rising.{lanes_rise}
use Rattle.builder.proofs.laws.lanes_rise.Goals as goal

pub returns : goal.returns
returns c = lanes_rise
