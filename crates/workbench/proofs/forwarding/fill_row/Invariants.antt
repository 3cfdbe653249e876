use Rattle.std.proofs.Common.{◌≡◌, ℕ, ◌<◌, length, slice_index}
use Rattle.routing.specs.Sources.{entry_of, downhill_route}
use Rattle.workbench.proofs.forwarding.fill_row.Given as goal

abbrev pub invariant-loop-node : goal.invariant-loop-node
invariant-loop-node l =
    (length l.row ≡ length l.initial.row) × ((v : ℕ) → v < l.node → entry_of (slice_index l.row v) ≡ downhill_route l.fn.source.rack.now l.fn.source.distances.now l.fn.arriving.0 v)
