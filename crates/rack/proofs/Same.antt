-- Lanes, and levels, of one number are the same. Assumes nothing.
use Rattle.std.proofs.Common.{◌≡◌, ℕ, ◌≤◌}
use mathlib.Core.HLevel.{is_prop→PathP}
use native.Mathlib.Bridge.{le_prop}
use Rattle.rack.specs.declared.numbers.UpTo.{UpTo}

pub same_number : (last : ℕ) (a b : UpTo last) → a.number ≡ b.number → a ≡ b
same_number last a b e = λ i. record { number = e i; within = is_prop→PathP (λ j. e j ≤ last) (λ j. le_prop) a.within b.within i }
