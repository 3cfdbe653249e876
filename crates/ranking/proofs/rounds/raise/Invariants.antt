use Rattle.std.proofs.Common.{◌≡◌, ℕ, ◌+◌, ◌<◌, ◌⊎◌, get_or}
use Rattle.ranking.proofs.rounds.raise.Given as goal

abbrev pub invariant-loop-y : goal.invariant-loop-y
invariant-loop-y g l =
    let f = g.G.Graph.followed_by l.graph l.x in
    (goal.iterator-loop-y g).can_next l.y-iterator
    × (goal.iterator-loop-y g).is_finite l.y-iterator
    × (l.y-iterator.graph.now ≡ l.graph)
    × (l.y-iterator.point ≡ l.x)
    × ((y : ℕ) → y < l.y-iterator.from → f y → get_or l.ranks y 0 ≡ l.r + 1)
    × ((y : ℕ) → (get_or l.ranks y 0 ≡ get_or l.initial.ranks y 0) ⊎ ((get_or l.ranks y 0 ≡ l.r + 1) × f y))
