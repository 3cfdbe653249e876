use Rattle.std.proofs.Common.{ℕ, List, ◌++◌, Bor}
use Rattle.std.specs.Str.Iter.{split_ascii_whitespace_text}
use Rattle.workbench.specs.Words.{WordsOf}
use Rattle.workbench.proofs.words.words.Given as goal

abbrev pub invariant-loop-word : goal.invariant-loop-word
invariant-loop-word l =
    goal.iterator-loop-word.can_next l.word-iterator
    × goal.iterator-loop-word.is_finite l.word-iterator
    × ((tail : List (Bor (List ℕ))) → WordsOf (split_ascii_whitespace_text l.word-iterator) tail → WordsOf l.fn.line (l.words.items ++ tail))
