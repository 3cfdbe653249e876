use Rattle.std.proofs.Common.{◌≡◌, ◌*◌, length, refl, ap, ◌∙◌, arith}
use Rattle.courses.specs.Queues.{at, push}
use Rattle.fabric.specs.declared.packet.Packet.{Packet}
use Rattle.fabric.proofs.fabric.Fabric.admit.Goals as goal

pub returns-clause-admitted : goal.returns-clause-admitted
returns-clause-admitted g c =
    let inside = c.in_ok-channel.ensures in
    let qs = c.args.queues.now in
    let first : c.of-first.result.0 ≡ 8 * c.in_ok-channel.channel.0 = omega (arith, c.of-first.ensures, c.zero.ensures) in
    let packet : Packet = record { pair = c.args.pair; level = c.in_ok-channel.level; hop = 0; tag = c.args.tag } in
    record {
      ready = c.in_ok-ready.ensures;
      pair = inside.0;
      out = c.in_ok-channel.channel.0;
      leaves = inside.1;
      fits = omega (arith, c.count_at.ensures, c.room.ensures.is, ap (λ n. length (at qs n)) first);
      packet = packet;
      its_pair = refl;
      its_level = inside.2;
      its_hop = refl;
      its_tag = refl;
      pushed = c.push_at.ensures ∙ ap (λ n. push qs n packet) first;
    }
