use Rattle.std.proofs.Common.{◌≡◌}
use Rattle.routing.specs.Plans.{routing_of}
use Rattle.checking.specs.Marks.{Adds}
use Rattle.checking.proofs.Pairing.{FirstFine, FirstSay}
use Rattle.checking.proofs.marks.Marker.mark_all.Given as goal

abbrev pub invariant-loop-pair : goal.invariant-loop-pair
invariant-loop-pair g l =
    let plan = l.fn.self.plan.now in
    let R = routing_of g.S.ForwardingSource.route g.M.LaneMap.lanes plan in
    let from = l.pair-iterator.from in
    (goal.iterator-loop-pair g).can_next l.pair-iterator
    × (goal.iterator-loop-pair g).is_finite l.pair-iterator
    × (l.pair-iterator.rack.now ≡ plan.rack.now)
    × (l.self.plan ≡ l.fn.self.plan)
    × FirstFine R plan.levels.now plan.lanes from
    × Adds (FirstSay R plan.levels.now from) l.fn.self.marks.items l.self.marks.items
