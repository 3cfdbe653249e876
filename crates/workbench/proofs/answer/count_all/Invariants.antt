use Rattle.std.proofs.Common.{◌≡◌, ◌*◌, ◌≤◌, length, take, sum_by}
use Rattle.workbench.proofs.answer.count_all.Given as goal

abbrev pub invariant-loop-queue : goal.invariant-loop-queue
invariant-loop-queue l = (l.count ≡ sum_by length (take l.queue-index l.queues)) × (l.count ≤ 8 * l.queue-index)
