-- What is sought among the channels that an iterator gives. Assumes nothing.
use Rattle.std.specs.Prelude.{◌≡◌, ℕ, ◌+◌, ◌*◌, ◌/◌, ◌%◌, ◌<◌, Bool, true, List, Option, Contains}
use Rattle.std.specs.Iterator.{AlwaysYields}
use Rattle.std.specs.List.{AllPairs}
use Rattle.rack.specs.declared.numbers.Channel.{Channel}
use Rattle.checking.specs.Words.{bit}

-- the iterator gives the channels of the list, in ascending order
abbrev pub GivesAscending : {S : Type 0} → (S → Option Channel → S → Type 0) → S → List Channel → Type 0
GivesAscending gives s list = AlwaysYields gives (λ c. c) s list × AllPairs (λ b c. b.0 < c.0) list

-- each call at a channel answers what h gives
abbrev pub Computes : {A : Type 0} → (Channel → A → Type 0) → (ℕ → A) → Type 0
Computes {A} call h = (c : Channel) (a : A) → call c a → a ≡ h c.0

-- virtual channel y is on a channel of the list, and its bit is set: bit first + step i of the channel's word for lane i
abbrev pub SetOn : List Channel → (ℕ → ℕ) → ℕ → ℕ → ℕ → Type 0
SetOn list word first step y = Contains list (record { 0 = y / 8 }) × (bit (word (y / 8)) (first + step * (y % 8)) ≡ true)

-- channel c is one of the list, and is marked
abbrev pub MarkedOf : List Channel → (ℕ → Bool) → ℕ → Type 0
MarkedOf list marked c = Contains list (record { 0 = c }) × (marked c ≡ true)
