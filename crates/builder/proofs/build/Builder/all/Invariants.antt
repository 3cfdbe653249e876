use Rattle.std.proofs.Common.{◌≡◌}
use Rattle.builder.specs.Method.{tables}
use Rattle.builder.proofs.Taking.{TakenFrom}
use Rattle.builder.proofs.build.Builder.all.Given as goal

abbrev pub invariant-loop-pair : goal.invariant-loop-pair
invariant-loop-pair g l =
    let given = l.fn.self.given.now in
    (goal.iterator-loop-pair g).can_next l.pair-iterator
    × (goal.iterator-loop-pair g).is_finite l.pair-iterator
    × (l.pair-iterator.rack.now ≡ given.rack.now)
    × (l.self.given ≡ l.fn.self.given)
    × TakenFrom given.rack.now (g.S.ForwardingSource.route given.source.now) given.lane_count l.pair-iterator.from (tables l.lanes l.levels)
