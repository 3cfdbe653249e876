use Rattle.std.proofs.Common.{◌/◌, ◌≢◌, drop, sym, refl, ap, ◌∙◌}
use Rattle.rack.specs.Racks.{head}
use Rattle.courses.specs.Queues.{at}
use Rattle.std.proofs.lemmas.Bool.{both_ways}
use Rattle.fabric.proofs.fabric.Fabric.take.Goals as goal

pub returns-then-not-enters-clause-why : goal.returns-then-not-enters-clause-why
returns-then-not-enters-clause-why g c =
    let not_home : head c.args.plan.now.rack.now (c.args.from.0 / 8) ≢ c.in_ok-packet.packet.pair.receiver.0 = λ home. both_ways c.enters.result c.if-not-enters.true (c.enters.ensures.1 (ap (head c.args.plan.now.rack.now) c.channel.ensures ∙ home)) in
    rw c.misplaced.ensures (c.in_ok-packet.packet, _, c.in_ok-packet.ensures, refl, refl, not_home)

pub returns-clause-taken : goal.returns-clause-taken
returns-clause-taken g c =
    record {
      packet = c.in_ok-packet.packet;
      rest = drop 1 (at c.args.queues.now c.args.from.0);
      can = record { first = c.in_ok-packet.ensures; home = ap (head c.args.plan.now.rack.now) (sym c.channel.ensures) ∙ c.enters.ensures.0 c.if-not-enters.false };
      told = c.into.ensures;
      left = c.pop_at.ensures;
    }
