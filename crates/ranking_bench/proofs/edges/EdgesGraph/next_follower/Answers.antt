use Rattle.std.proofs.Common.{ℕ, Contains, arith, rules}
use Rattle.std.proofs.lemmas.Iterator.{first_from_Range}
use Rattle.ranking_bench.proofs.Finding.{next_from_first}
use Rattle.ranking_bench.proofs.edges.EdgesGraph.next_follower.Goals as goal

pub returns : goal.returns
returns c =
    let Q : ℕ → Type 0 = λ y. Contains c.args.self.now.edges.now (c.args.x, y) in
    let first = first_from_Range _ _ _ _ Q (λ y. Q y → ⊥) c.find.ensures.ran (λ y q k. search rules) (λ y q k. search rules) in
    next_from_first _ Q _ _ (λ z h. ((let l = h.1 in omega arith), h.2)) (λ z l q. (omega arith, omega arith, q)) _ first
