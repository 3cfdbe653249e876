use Rattle.std.proofs.Common.{◌≡◌, ◌≤◌, take}
use Rattle.std.specs.Prelude.{◌==◌}
use Rattle.std.specs.List.{count_by}
use Rattle.rack.specs.Racks.{nodes_of}
use Rattle.workbench.proofs.summary.host_count.Given as goal

abbrev pub invariant-loop-number : goal.invariant-loop-number
invariant-loop-number l = (l.hosts ≡ count_by (λ kind. kind == 1) (take l.number (nodes_of l.rack))) × (l.hosts ≤ l.number)
