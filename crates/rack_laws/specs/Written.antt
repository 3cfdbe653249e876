-- The file written out from a list of nodes and a list of cables. Assumes nothing.
use Rattle.std.specs.Prelude.{ℕ, ◌+◌, ◌/◌, ◌%◌, cond, List, [], ◌∷◌, ◌++◌, length, ◌==◌}
use Rattle.reading.specs.declared.add.Counts.{Counts}
use Rattle.rack.specs.declared.cable.Cable.{Cable}

-- the high byte of a two-byte number
abbrev pub high : ℕ → ℕ
high n = n / 256

-- the low byte of a two-byte number
abbrev pub low : ℕ → ℕ
low n = n % 256

-- the record of node v, a host, 1, or a switch, 2
abbrev pub node_record : ℕ → ℕ → List ℕ
node_record v kind = cond (kind == 1) 72 83 ∷ high v ∷ low v ∷ 0 ∷ 0 ∷ 0 ∷ 0 ∷ 0 ∷ []

-- the record of a cable
abbrev pub cable_record : Cable → List ℕ
cable_record c =
    67 ∷ high c.first.node.0 ∷ low c.first.node.0 ∷ c.first.port.0
    ∷ high c.second.node.0 ∷ low c.second.node.0 ∷ c.second.port.0 ∷ 0 ∷ []

-- the records of nodes, numbered from v on
abbrev pub node_records : ℕ → List ℕ → List ℕ
node_records v [] = []
node_records v (kind ∷ kinds) = node_record v kind ++ node_records (v + 1) kinds

-- the records of cables
abbrev pub cable_records : List Cable → List ℕ
cable_records [] = []
cable_records (c ∷ cs) = cable_record c ++ cable_records cs

-- the records of the nodes and then of the cables, each in its order
abbrev pub written : List ℕ → List Cable → List ℕ
written nodes cables = node_records 0 nodes ++ cable_records cables

-- as many nodes and cables as the lists have, and no forwarding entries
abbrev pub counted : List ℕ → List Cable → Counts
counted nodes cables = record { nodes = length nodes; cables = length cables; entries = 0 }
