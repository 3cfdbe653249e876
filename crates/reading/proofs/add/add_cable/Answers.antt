use Rattle.std.proofs.Common.{sym, refl, subst, inl, inr, arith}
use Rattle.std.proofs.lemmas.Bool.Decides.{not_from_Decides}
use Rattle.std.proofs.lemmas.List.{length_push}
use Rattle.rack.specs.Network.{none, FreeEnd}
use Rattle.rack.proofs.ShownTables.{shows_push, joins_alike}
use Rattle.reading.proofs.OneMore.{front}
use Rattle.reading.proofs.add.add_cable.Goals as goal

pub returns-then-not-is_free : goal.returns-then-not-is_free
returns-then-not-is_free c = λ net forwarding s.
    let first = front s (omega arith) in
    let right = joins_alike _ net.nodes _ s.node (c.joins_ports.ensures.0 c.if-not-joins_ports.false) in
    let taken = not_from_Decides _ c.is_free.ensures c.if-not-is_free.true in
    inr (omega arith, inr (omega arith, inr (right, inl (refl, λ free. taken (subst (λ l. FreeEnd l c.args.cable.first × FreeEnd l c.args.cable.second) (sym first) free)))))

pub returns : goal.returns
returns c = λ net forwarding s.
    let first = front s (omega arith) in
    let right = joins_alike _ net.nodes _ s.node (c.joins_ports.ensures.0 c.if-not-joins_ports.false) in
    let free = subst (λ l. FreeEnd l c.args.cable.first × FreeEnd l c.args.cable.second) first (c.is_free.ensures.0 c.if-not-is_free.false) in (
      (omega arith, (omega arith, (right, (free, tt)))),
      record {
        node_count = s.node_count;
        cable_count = rw length_push (omega arith);
        entry_count = omega arith;
        node = s.node;
        cable = λ k. shows_push net.cables _ none _ _ s.cable_count (omega arith) s.cable k;
        hop = λ w v h. inl (s.blank (omega arith) _, λ k l. absurd (omega arith));
        blank = s.blank;
      },
    )
