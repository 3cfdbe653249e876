use Rattle.std.proofs.Common.{◌≡◌, ℕ, length}
use Rattle.rack.specs.Index.{leaving_below, list_of}
use Rattle.rack.proofs.rack.make.list_channels.Given as goal

abbrev pub invariant-loop-number : goal.invariant-loop-number
invariant-loop-number l =
    record { long : length l.lists.items ≡ length l.nodes; lists : (v : ℕ) → list_of l.lists.items v ≡ leaving_below l.cables v l.number }
