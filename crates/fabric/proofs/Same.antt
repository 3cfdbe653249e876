-- Channels of one number are the same. Assumes nothing.
use Rattle.std.proofs.Common.{◌≡◌}
use Rattle.rack.specs.declared.numbers.Channel.{Channel}

pub same_channel : (a b : Channel) → a.0 ≡ b.0 → a ≡ b
same_channel a b e = λ i. record { 0 = e i }
