use Rattle.std.proofs.Common.{◌≡◌, ◌*◌, ◌≤◌, length, take, sum_by}
use Rattle.fabric.proofs.fabric.close.count_all.Given as goal

abbrev pub invariant-loop-queue : goal.invariant-loop-queue
invariant-loop-queue l = record { is : l.count ≡ sum_by length (take l.queue-index l.queue-items); few : l.count ≤ 8 * l.queue-index }
