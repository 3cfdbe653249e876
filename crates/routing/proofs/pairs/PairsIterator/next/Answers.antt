use Rattle.std.proofs.Common.{arith}
use Rattle.routing.proofs.PairOrder.{place_below}
use Rattle.routing.proofs.pairs.PairsIterator.next.Goals as goal

pub returns-clause-goes : goal.returns-clause-goes
returns-clause-goes c =
    let found = c.in_ok-pair.ensures in
    let low = place_below c.args.self.now.rack.now c.in_ok-pair.pair.sender.0 c.in_ok-pair.pair.receiver.0 found.0 in
    record { on = λ f. (tt, tt, omega (arith, low, found.1, c.place-place.ensures)); keeps = tt; rests = λ f. tt }
