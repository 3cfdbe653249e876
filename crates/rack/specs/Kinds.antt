-- The kinds of nodes by their numbers. Assumes nothing.
use Rattle.std.specs.Prelude.{ℕ}
use Rattle.rack.specs.declared.kind.Kind.{Kind}
use Rattle.rack.specs.declared.kind.Kind.TheVariants.{Host, Switch}

-- a kind's number in the node table
abbrev pub code : Kind → ℕ
code Host = 1
code Switch = 2
