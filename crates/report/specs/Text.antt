-- The lines that are printed, as bytes. Assumes nothing.
use Rattle.std.specs.Prelude.{ℕ, List, [], ◌∷◌, ◌++◌, codes, decimal}
use Rattle.report.specs.declared.refusal.Told.{Told}
use Rattle.report.specs.declared.lines.Line.{Line}
use Rattle.report.specs.declared.lines.Line.TheVariants.{Accepted, Pair, Refused}

-- numbers in decimal, each behind one space, and a newline
abbrev pub ending : List ℕ → List ℕ
ending [] = 10 ∷ []
ending (n ∷ ns) = 32 ∷ (decimal n ++ ending ns)

-- `accepted` and the greatest rank
abbrev pub accepted_line : ℕ → List ℕ
accepted_line greatest = codes "accepted" ++ ending (greatest ∷ [])

-- the sender, the receiver, the level and the count of channels of a pair
abbrev pub pair_line : ℕ → ℕ → ℕ → ℕ → List ℕ
pair_line sender receiver level channels = decimal sender ++ ending (receiver ∷ level ∷ channels ∷ [])

-- `refused`, the number, the sender or record, the receiver and the hop
abbrev pub refused_line : Told → List ℕ
refused_line t = codes "refused" ++ ending (t.number ∷ t.sender ∷ t.receiver ∷ t.hop ∷ [])

-- the bytes of a line
abbrev pub line_text : Line → List ℕ
line_text (Accepted greatest) = accepted_line greatest
line_text (Pair sender receiver level channels) = pair_line sender receiver level channels
line_text (Refused t) = refused_line t
