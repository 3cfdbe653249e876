use Rattle.std.proofs.Common.{◌≡◌, ◌≤◌, length, take, vec_items, vec_len, vec_capacity}
use Rattle.fabric.specs.Calls.{setup_of}
use Rattle.fabric.specs.Courses.{Performs}
use Rattle.fabric.proofs.fabric.Fabric.run.Given as goal

abbrev pub invariant-loop-call : goal.invariant-loop-call
invariant-loop-call g l =
    (vec_len l.answers ≡ l.call-index)
    × (length l.calls ≤ vec_capacity l.answers)
    × Performs
    (setup_of g.S.ForwardingSource.route g.M.LaneMap.lanes l.plan l.self.depth)
    l.initial.queues (take l.call-index l.calls) (vec_items l.answers) l.queues
