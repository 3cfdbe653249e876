use Rattle.std.proofs.Common.{rules, tests, ◌≡◌, ℕ, ◌+◌, ◌*◌, ◌≤◌, Bool, true, false, arith}
use Rattle.std.proofs.lemmas.Iterator.{serves_from_Range, first_from_Range}
use Rattle.std.proofs.lemmas.Nat.{mul-le}
use Rattle.checking.specs.Words.{bit}
use Rattle.checking.proofs.words.lowest.Goals as goal

pub find-requires-clause-callable : goal.find-requires-clause-callable
find-requires-clause-callable c =
    serves_from_Range (λ x q k. search rules)
    (λ x l u y e. let h : c.args.step * y.now ≤ c.args.step * 7 = mul-le c.args.step y.now c.args.step 7 (omega arith) (omega arith) in search (rules, h))

pub returns : goal.returns
returns c =
    let Is : Bool → ℕ → Type 0 = λ b i. bit c.args.word (c.args.first + c.args.step * i) ≡ b in
    first_from_Range _ _ _ _ (Is true) (Is false) c.find.ensures.ran (λ x q k. search (rules, tests)) (λ x q k. search (rules, tests))
