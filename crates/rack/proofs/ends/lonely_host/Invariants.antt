use Rattle.std.proofs.Common.{ℕ, ◌<◌}
use Rattle.rack.specs.Network.{Lonely}
use Rattle.rack.proofs.ends.lonely_host.Given as goal

abbrev pub invariant-loop-node : goal.invariant-loop-node
invariant-loop-node l = (u : ℕ) → u < l.node → Lonely l.nodes l.cables u → ⊥
