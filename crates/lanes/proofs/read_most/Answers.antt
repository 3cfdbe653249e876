use Rattle.std.proofs.Common.{◌≡◌, ℕ, List, [], ◌++◌, take, IfSome, Some, None, Option, option_map, ap, ◌∙◌, arith}
use Rattle.std.proofs.lemmas.List.{length-take, take_all}
use Rattle.lanes.proofs.read_most.Goals as goal

-- what was read and cut, from what the input holds
first_of_input : (o p : Option (List ℕ)) (n : ℕ) (was now cut : List ℕ) → p ≡ option_map (take n) o → was ≡ [] → IfSome p (λ xs. now ≡ was ++ xs) → cut ≡ take n now → IfSome o (λ bytes. cut ≡ take n bytes)
first_of_input None p n was now cut e z h c = tt
first_of_input (Some bytes) p n was now cut e z h c = let read : now ≡ take n bytes = rw (e, z) at h in c ∙ ap (take n) read ∙ take_all n (take n bytes) (omega (arith, length-take n bytes))

pub returns-clause-bytes : goal.returns-clause-bytes
returns-clause-bytes g c =
    let limit = c.take.ensures.limit in
    let inner = c.take.ensures.inner in
    let remaining = g.R.Read.remaining in
    first_of_input (remaining c.args.input) _ 4096 c.in_ok-file.file.items c.read_to_end.new.buf.items c.truncate.new.self.items (λ i. option_map (take (limit i)) (remaining (inner i))) c.in_ok-file.ensures.items c.in_ok-read_to_end.ensures.bytes c.truncate.ensures.items
