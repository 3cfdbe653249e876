-- Setting one bit of a word. Assumes nothing.
use Rattle.std.proofs.Common.{◌≡◌, ◌≢◌, ℕ, ◌^◌, true, eqb, ap, arith}
use Rattle.std.specs.Int.{bit_at}
use Rattle.std.specs.Int.Bits.{bit_or}
use Rattle.std.proofs.lemmas.Nat.Bits.{bit_at-lt, bit_at_or, bit_at-pow_same, bit_at-pow_other}
use Rattle.checking.specs.Words.{bit}

pub bit_set : (x b : ℕ) → bit (bit_or x (2 ^ b)) b ≡ true
bit_set x b =
    let is : bit_at (bit_or x (2 ^ b)) b ≡ 1 = omega (arith, bit_at_or x (2 ^ b) b, bit_at-pow_same b, bit_at-lt x b) in
    ap (λ n. eqb n 1) is

pub bit_other : (x b k : ℕ) → k ≢ b → bit (bit_or x (2 ^ b)) k ≡ bit x k
bit_other x b k ne =
    let same : bit_at (bit_or x (2 ^ b)) k ≡ bit_at x k = omega (arith, bit_at_or x (2 ^ b) k, bit_at-pow_other b k ne) in
    ap (λ n. eqb n 1) same
