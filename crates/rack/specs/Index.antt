-- Which channels a rack lists for each node, and which for each port. Assumes nothing.
use Rattle.std.specs.Prelude.{◌≡◌, ℕ, zero, suc, ◌+◌, ◌*◌, ◌<◌, ◌==◌, cond, List, [], ◌∷◌, ◌++◌, length, map, slice_index_or, Vec, Option, Some, None}
use Rattle.std.specs.declared.alloc.Global.{Global}
use Rattle.std.specs.List.{All, AllPairs, Contains}
use Rattle.rack.specs.declared.cable.Cable.{Cable}
use Rattle.rack.specs.declared.cable.End.{End}
use Rattle.rack.specs.declared.numbers.Channel.{Channel}
use Rattle.rack.specs.Network.{channels, tail_end}

-- the list has the channels that are P, in ascending order
pub record Lists (P : ℕ → Type 0) (list : List Channel) : Type 0 where
  pub each : All (λ c. P c.0) list
  pub every : (c : Channel) → P c.0 → Contains list c
  pub ascending : AllPairs (λ b c. b.0 < c.0) list

-- the channels below n that leave node v, in ascending order
abbrev pub leaving_below : List Cable → ℕ → ℕ → List Channel
leaving_below cables v zero = []
leaving_below cables v (suc n) = leaving_below cables v n ++ cond ((tail_end cables n).node.0 == v) (record { 0 = n } ∷ []) []

-- the list that a rack has for node v; empty for what is no node
abbrev pub list_of : List (Vec Channel Global) → ℕ → List Channel
list_of lists v = slice_index_or (map (λ l. l.items) lists) v []

-- there is a list for each node, of the channels that leave it
abbrev pub Listed : List ℕ → List Cable → List (Vec Channel Global) → Type 0
Listed nodes cables lists = (length lists ≡ length nodes) × ((v : ℕ) → list_of lists v ≡ leaving_below cables v (channels cables))

-- the place of a port in a table of the ports of all nodes, 0 to 36 of each
abbrev pub port_place : End → ℕ
port_place e = 37 * e.node.0 + e.port.0

-- each channel stands at the place of the port by which it leaves, and nothing else stands anywhere
abbrev pub Ported : List ℕ → List Cable → List (Option Channel) → Type 0
Ported nodes cables ports =
    (length ports ≡ 37 * length nodes)
    × ((c : ℕ) → c < channels cables → slice_index_or ports (port_place (tail_end cables c)) None ≡ Some (record { 0 = c }))
    × ((k : ℕ) (c : Channel) → slice_index_or ports k None ≡ Some c → (c.0 < channels cables) × (port_place (tail_end cables c.0) ≡ k))
