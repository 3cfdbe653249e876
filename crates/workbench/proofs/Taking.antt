-- Words that are taken off a line, one after another. Assumes nothing.
use Rattle.std.proofs.Common.{ℕ, List, [], ◌∷◌, ◌++◌, Some, None, sym, subst, Bor}
use Rattle.std.proofs.lemmas.List.{append_assoc}
use Rattle.std.specs.Str.Iter.{CutsAsciiWord}
use Rattle.workbench.specs.Words.{WordsOf}

-- what the words so far and those of the rest are to the line
abbrev pub Taken : List ℕ → List (Bor (List ℕ)) → List ℕ → Type 0
Taken line before rest = (tail : List (Bor (List ℕ))) → WordsOf rest tail → WordsOf line (before ++ tail)

-- one more word is taken
pub taken_more :
    (line rest left : List ℕ) (before : List (Bor (List ℕ))) (w : Bor (List ℕ)) → Taken line before rest →
    CutsAsciiWord rest (Some w) left (λ gap x sep. gap ++ (x ++ (sep ++ left))) → Taken line (before ++ w ∷ []) left
taken_more line rest left before w taken cut tail h =
    let parts = cut.3 in
    subst (WordsOf line) (sym (append_assoc before (w ∷ []) tail))
    (taken (w ∷ tail) (parts.0, parts.1, left, parts.2, parts.3, cut.0, cut.1, parts.4.0, parts.4.2, h))

-- nothing but white space is left
pub taken_end : (line rest left : List ℕ) (words : List (Bor (List ℕ))) → Taken line words rest → CutsAsciiWord rest None left (λ gap x sep. gap ++ (x ++ (sep ++ left))) → WordsOf line (words ++ [])
taken_end line rest left words taken cut = taken [] cut.0
