-- The racks of the worked examples, and by what they are planned. Assumes nothing.
use Rattle.std.specs.Prelude.{◌≡◌, ℕ, ◌*◌, ◌≤◌, List, length, slice_index}
use Rattle.rack.specs.declared.rack.Rack.{Rack}
use Rattle.rack.specs.Racks.{nodes_of, cables_of, node_count}
use Rattle.example_racks.specs.Tables.{triangle_nodes, triangle_cables, line_nodes, line_cables}
use Rattle.routing.specs.declared.pair.Pair.{Pair}
use Rattle.routing.specs.Paths.{Routing, routing}
use Rattle.routing.specs.Sources.{stored_route, downhill_route}
use Rattle.routing.specs.Turns.{two_hop, stored_lane}
use Rattle.routing.specs.Ways.{Distances}

-- a rack with the tables of the triangle
abbrev pub Triangle : Rack → Type 0
Triangle r = (nodes_of r ≡ triangle_nodes) × (cables_of r ≡ triangle_cables)

-- a rack with the tables of the line
abbrev pub Line : Rack → Type 0
Line r = (nodes_of r ≡ line_nodes) × (cables_of r ≡ line_cables)

-- the table has a place for every pair of nodes, and holds the distances of the rack
abbrev pub TrueDistances : Rack → List ℕ → Type 0
TrueDistances r distances = (node_count r * node_count r ≤ length distances) × Distances r distances

-- every place of the table holds 0
abbrev pub AllZero : List ℕ → Type 0
AllZero table = (k : ℕ) → slice_index table k ≡ 0

-- sender u and receiver v
abbrev pub pair_of : ℕ → ℕ → Pair
pair_of u v = record { sender = record { 0 = u }; receiver = record { 0 = v } }

-- by a forwarding table and a lane table
abbrev pub stored_rows : Rack → List ℕ → List ℕ → Routing
stored_rows r forwarding lanes = routing r (stored_route r forwarding) (stored_lane r lanes)

-- by a forwarding table and the two-hop map
abbrev pub stored_two_hop : Rack → List ℕ → Routing
stored_two_hop r forwarding = routing r (stored_route r forwarding) (two_hop r)

-- downhill by a distance table, and the two-hop map
abbrev pub downhill_two_hop : Rack → List ℕ → Routing
downhill_two_hop r distances = routing r (downhill_route r distances) (two_hop r)
