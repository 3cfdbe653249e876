-- What the check asks before it looks at a pair. Assumes nothing.
use Rattle.std.specs.Prelude.{ℕ, ◌*◌, ◌≤◌}
use Rattle.rack.specs.declared.rack.Rack.{Rack}
use Rattle.rack.specs.Racks.{node_count, channel_count}
use Rattle.routing.specs.Turns.{turn_count}
use Rattle.routing.specs.Plans.{OneToEight}
use Rattle.checking.specs.declared.fault.CheckFault.{CheckFault}
use Rattle.checking.specs.declared.fault.CheckFault.TheVariants.{Lanes, Tables, Level, Walk, Ring, Memory}

-- the path, dependency, rank and ring tables have the places needed
abbrev pub Long : Rack → ℕ → ℕ → ℕ → ℕ → Type 0
Long r levels dependencies ranks ring =
    (node_count r * node_count r ≤ levels) × (turn_count (channel_count r) ≤ dependencies) × (8 * channel_count r ≤ ranks) × (8 * channel_count r ≤ ring)

-- why nothing was looked at: the lane count is out of range; else a table is too short
abbrev pub StartRefused : ℕ → Type 0 → CheckFault → Type 0
StartRefused lanes long Lanes = OneToEight lanes → ⊥
StartRefused lanes long Tables = OneToEight lanes × (long → ⊥)
StartRefused lanes long (Level p) = ⊥
StartRefused lanes long (Walk f) = ⊥
StartRefused lanes long (Ring n) = ⊥
StartRefused lanes long Memory = ⊥
