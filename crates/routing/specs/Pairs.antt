-- The pairs of different hosts in their order. Assumes nothing.
use Rattle.std.specs.Prelude.{◌≡◌, ℕ, ◌+◌, ◌*◌, ◌<◌, ◌≤◌, Option, MatchOption}
use Rattle.rack.specs.declared.rack.Rack.{Rack}
use Rattle.rack.specs.Racks.{node_count}
use Rattle.routing.specs.declared.pair.Pair.{Pair}
use Rattle.routing.specs.Paths.{PairOf}

-- the place of the pair u, v in a table with a place for every pair of nodes
abbrev pub pair_place : Rack → ℕ → ℕ → ℕ
pair_place r u v = node_count r * u + v

-- of the pairs of sender u whose place is k or more, the first; none if there is none
abbrev pub NextOf : Rack → ℕ → ℕ → Option Pair → Type 0
NextOf r u k found =
    MatchOption found
    ((v : ℕ) → PairOf r u v → pair_place r u v < k)
    (λ p. (p.sender.0 ≡ u) × PairOf r u p.receiver.0 × (k ≤ pair_place r u p.receiver.0) × ((v : ℕ) → PairOf r u v → k ≤ pair_place r u v → p.receiver.0 ≤ v))

-- of the pairs of different hosts whose place is k or more, the first; none if there is none
abbrev pub NextPair : Rack → ℕ → Option Pair → Type 0
NextPair r k found =
    MatchOption found
    ((u v : ℕ) → PairOf r u v → pair_place r u v < k)
    (λ p. PairOf r p.sender.0 p.receiver.0 × (k ≤ pair_place r p.sender.0 p.receiver.0) × ((u v : ℕ) → PairOf r u v → k ≤ pair_place r u v → pair_place r p.sender.0 p.receiver.0 ≤ pair_place r u v))
