use Rattle.std.proofs.Common.{◌/◌, ◌≤◌, arith}
use Rattle.std.proofs.lemmas.List.Elements.{All-push}
use Rattle.checking.proofs.Scans.{Clear, set_end, set_found}
use Rattle.checking.proofs.graph.first_set.Goals as goal

pub loop-channel-preserved-then-channel-from : goal.loop-channel-preserved-then-channel-from
loop-channel-preserved-then-channel-from g c =
    let a = c.args in
    let on = c.in-Some.ensures.goes.on c.loop-channel.invariant.1 in
    (on.0, on.1, All-push (Clear (goal.F-post g a.word) a.from a.first a.step) c.loop-channel.yielded c.in-Some.channel c.loop-channel.invariant.2 (λ i u l. absurd (omega (arith, c.if-channel-from.true))))

pub loop-channel-preserved : goal.loop-channel-preserved
loop-channel-preserved g c =
    let a = c.args in
    let on = c.in-Some.ensures.goes.on c.loop-channel.invariant.1 in
    let not_below : a.from / 8 ≤ c.in-Some.channel.0 = omega (arith, c.if-channel-from.false) in (
      on.0,
      on.1,
      All-push (Clear (goal.F-post g a.word) a.from a.first a.step) c.loop-channel.yielded c.in-Some.channel c.loop-channel.invariant.2
          (λ i u l. (c.word.result, c.word.ensures, c.in_default.ensures i ((c.low_lane.ensures not_below i u).1 l) u)),
    )

pub returns-in-Some-lowest : goal.returns-in-Some-lowest
returns-in-Some-lowest g c list words gives told =
    let a = c.args in
    let not_below : a.from / 8 ≤ c.in-Some.channel.0 = omega (arith, c.if-channel-from.false) in
    set_found (goal.F-post g a.word) a.from a.first a.step g.I.Iterator.next_gives c.into_iter-channel-iterator.ensures.into_iter_gives c.loop-channel.yielded c.loop-channel.channel-iterator c.loop-channel.yielded_by c.loop-channel.invariant.2 list words gives told
    c.in-Some.channel c.next.result c.next.new.self c.in-Some.is c.next.ensures.steps c.low_lane.result (c.low_lane.ensures not_below) c.word.result c.word.ensures
    c.in-Some-lowest.lane _ c.in-Some-lowest.ensures (omega (arith, c.from.ensures))

pub returns : goal.returns
returns g c list words gives told =
    let a = c.args in
    set_end (goal.F-post g a.word) a.from a.first a.step g.I.Iterator.next_gives c.into_iter-channel-iterator.ensures.into_iter_gives c.loop-channel.yielded c.loop-channel.channel-iterator c.loop-channel.yielded_by c.loop-channel.invariant.2 list words gives told
    c.next.result c.next.new.self c.in-None.is c.next.ensures.steps
