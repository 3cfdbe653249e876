use Rattle.std.proofs.Common.{◌≡◌, ◌*◌, ◌≤◌, length, drop}
use Rattle.std.specs.Slice.Iter.{chunks_exact_rest, chunks_exact_size}
use Rattle.reading.specs.Rules.{Shown, Fine, described}
use Rattle.reading.proofs.read.fill.Given as goal

abbrev pub invariant-loop-record : goal.invariant-loop-record
invariant-loop-record l =
    let i = l.record-iterator.count in
    let left = l.record-iterator.iter in
    (goal.iterator-loop-record).can_next l.record-iterator × (goal.iterator-loop-record).is_finite l.record-iterator
    × (chunks_exact_size left ≡ 8) × (chunks_exact_rest left ≡ drop (8 * i) l.file) × (8 * i ≤ length l.file)
    × Shown (described l.file i) l.counts l.nodes l.cables l.forwarding
    × Fine l.limits l.file i
    × (l.counts.nodes ≤ 128) × (l.counts.cables ≤ 256) × (l.counts.entries ≤ i)
