-- The words of a line, and the numbers that words write. Assumes nothing.
use Rattle.std.specs.Prelude.{◌≡◌, ℕ, ◌^◌, ◌<◌, List, [], ◌∷◌, ◌++◌, length}
use denote.Ref.{Bor}
use Rattle.std.specs.List.{AllPass}
use Rattle.std.specs.Char.{is_ascii_whitespace}
use Rattle.std.specs.Str.{NoCharPasses}
use Rattle.std.specs.Str.Parse.{IsNumeral, digits_value, without_leading_plus}

-- the bytes are the words, between white space (a word is lent, and `.now` has its bytes): what stands before a word is white space, it has a byte and no white space, and behind it is white space or nothing
abbrev pub WordsOf : List ℕ → List (Bor (List ℕ)) → Type 0
WordsOf line [] = AllPass is_ascii_whitespace line
WordsOf line (w ∷ ws) =
    (gap space rest : List ℕ) × (line ≡ gap ++ (w.now ++ (space ++ rest))) × AllPass is_ascii_whitespace gap × (0 < length w.now) × NoCharPasses is_ascii_whitespace w.now
    × AllPass is_ascii_whitespace space × (length space ≡ 0 → length rest ≡ 0) × WordsOf rest ws

-- the word writes the number in decimal digits, behind a plus or without one, and the number is below 2 to the power of `bits`
abbrev pub Writes : ℕ → List ℕ → ℕ → Type 0
Writes bits word n = IsNumeral 10 (without_leading_plus word) × (digits_value 10 (without_leading_plus word) ≡ n) × (n < 2 ^ bits)
