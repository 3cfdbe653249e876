use Rattle.std.proofs.Common.{inl, arith}
use Rattle.std.proofs.lemmas.List.{length_push}
use Rattle.rack.proofs.ShownTables.{shows_push}
use Rattle.reading.proofs.add.add_node.Goals as goal

pub returns : goal.returns
returns c = λ net cables forwarding s. (
  ((omega arith, omega arith), (omega arith, (omega arith, tt))),
  record {
    node_count = rw length_push (omega arith);
    cable_count = omega arith;
    entry_count = omega arith;
    node = λ k. rw c.from-2.ensures (shows_push net.nodes _ 0 _ _ s.node_count (omega arith) s.node k);
    cable = s.cable;
    hop = λ w v h. inl (s.blank (omega arith) _, λ k l. absurd (omega arith));
    blank = s.blank;
  },
)
