use Rattle.std.proofs.Common.{ℕ, Contains, arith, rules}
use Rattle.std.proofs.lemmas.Iterator.{first_from_Range}
use Rattle.ranking_bench.proofs.Finding.{next_from_first}
use Rattle.ranking_bench.proofs.edges.EdgesGraph.next_forerunner.Goals as goal

pub returns : goal.returns
returns c =
    let Q : ℕ → Type 0 = λ x. Contains c.args.self.now.edges.now (x, c.args.y) in
    let first = first_from_Range _ _ _ _ Q (λ x. Q x → ⊥) c.find.ensures.ran (λ x q k. search rules) (λ x q k. search rules) in
    next_from_first _ Q _ _ (λ z h. ((let l = h.0 in omega arith), h.2)) (λ z l q. (omega arith, omega arith, q)) _ first
