use Rattle.std.proofs.Common.{length, drop, set, refl, ap, ◌∙◌, arith}
use Rattle.std.proofs.lemmas.Result.{err_from_is_err_and}
use Rattle.routing.specs.Paths.{hop}
use Rattle.courses.specs.Queues.{at, push}
use Rattle.fabric.specs.Calls.{setup_of}
use Rattle.fabric.proofs.Calls.{forward_no_way}
use Rattle.fabric.proofs.fabric.Fabric.forward.Goals as goal

pub returns-in_err-step-clause-why : goal.returns-in_err-step-clause-why
returns-in_err-step-clause-why g c =
    let s = setup_of g.S.ForwardingSource.route g.M.LaneMap.lanes c.args.plan.now c.args.self.now.depth in
    let q = err_from_is_err_and c.from_residual-in_err-step.result c.from_residual-in_err-step.ensures.1 in
    rw (q.1, q.2) (forward_no_way s c.args.queues.now c.args.from.0 c.in_ok-packet.packet _ c.in_err-step.field-0.0 c.in_ok-packet.ensures c.in_err-step.ensures.why)

pub returns-then-count_at-room-clause-why : goal.returns-then-count_at-room-clause-why
returns-then-count_at-room-clause-why g c =
    let h = c.in_ok-step.step in (
      c.in_ok-packet.packet,
      _,
      hop h.channel.0 h.lane.number,
      c.in_ok-packet.ensures,
      c.in_ok-step.ensures.on,
      refl,
      c.next_hop.ensures,
      omega (arith, c.count_at.ensures, c.room.ensures.is, ap (λ n. length (at c.args.queues.now n)) c.of-next.ensures),
    )

pub returns-clause-moved : goal.returns-clause-moved
returns-clause-moved g c =
    let qs = c.args.queues.now in
    let x = c.args.from.0 in
    let next = c.of-next.ensures in
    let rest = drop 1 (at qs x) in
    record {
      packet = c.in_ok-packet.packet;
      rest = rest;
      can = record {
        first = c.in_ok-packet.ensures;
        goes = c.in_ok-step.ensures.on;
        fits = omega (arith, c.count_at.ensures, c.room.ensures.is, ap (λ n. length (at qs n)) next);
      };
      pushed = c.push_at.ensures ∙ ap (λ l. push l c.of-next.result.0 c.moved.result) c.pop_at.ensures ∙ (λ i. push (set qs x rest) (next i) (c.moved.ensures i));
    }
