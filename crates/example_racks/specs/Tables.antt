-- The tables of the example racks. Assumes nothing.
use Rattle.std.specs.Prelude.{ℕ, List, [], ◌∷◌}
use Rattle.rack.specs.declared.cable.Cable.{Cable}
use Rattle.rack.specs.Network.{port_of}

-- the cable from port p of node v to port q of node w
abbrev pub cable : ℕ → ℕ → ℕ → ℕ → Cable
cable v p w q = record { first = port_of v p; second = port_of w q }

-- the nodes of the triangle: hosts 0 to 2, and the switches 3 to 5
abbrev pub triangle_nodes : List ℕ
triangle_nodes = 1 ∷ 1 ∷ 1 ∷ 2 ∷ 2 ∷ 2 ∷ []

-- the cables of the triangle: each host is on a switch of its own, 0 on 3, 1 on 4 and 2 on 5, and each switch is joined to both others
abbrev pub triangle_cables : List Cable
triangle_cables = cable 0 1 3 1 ∷ cable 1 1 4 1 ∷ cable 2 1 5 1 ∷ cable 3 2 4 2 ∷ cable 4 3 5 2 ∷ cable 5 3 3 3 ∷ []

-- the nodes of the line: hosts 0 to 3, and the switches 4 to 7
abbrev pub line_nodes : List ℕ
line_nodes = 1 ∷ 1 ∷ 1 ∷ 1 ∷ 2 ∷ 2 ∷ 2 ∷ 2 ∷ []

-- the cables of the line: each host is on a switch of its own, 0 on 4, 1 on 5, 2 on 6 and 3 on 7, and the switches stand in a row
abbrev pub line_cables : List Cable
line_cables = cable 0 1 4 1 ∷ cable 1 1 5 1 ∷ cable 2 1 6 1 ∷ cable 3 1 7 1 ∷ cable 4 2 5 2 ∷ cable 5 3 6 2 ∷ cable 6 3 7 2 ∷ []
