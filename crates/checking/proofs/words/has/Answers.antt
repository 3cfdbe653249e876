use Rattle.std.proofs.Common.{eqb, ap}
use Rattle.std.proofs.lemmas.Nat.Bits.{shr_and_one}
use Rattle.checking.proofs.words.has.Goals as goal

pub returns : goal.returns
returns c = ap (λ n. eqb n 1) (shr_and_one c.args.word c.args.place)
