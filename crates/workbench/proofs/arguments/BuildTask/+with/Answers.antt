use Rattle.std.proofs.Common.{rules, ◌≡◌, ℕ, List, ◌∷◌, Bor, ◌∙◌, ap, codes}
use Rattle.workbench.proofs.Choosing.{two_hop_made, lanes_made, root_made, out_made}
use Rattle.workbench.proofs.arguments.BuildTask.+with.Goals as goal
use Rattle.workbench.proofs.arguments.BuildTask.+with.Goals.{In_ok-word}

-- the words are the option, its word and the rest
words_are : (t : _) (c : In_ok-word t) → c.args.words.now ≡ c.in-Some.option.now ∷ c.in_ok-word.word.now ∷ c.in_ok-word.rest.now
words_are t c = c.in-Some.ensures.cases.0 ∙ ap (λ (l : List (Bor (List ℕ))). c.in-Some.option.now ∷ l) c.in_ok-word.ensures.cases.0

pub returns-then-eq : goal.returns-then-eq
returns-then-eq t c =
    let same : c.in-Some.option.now.now ≡ codes "--two-hop" = search rules in
    rw c.in-Some.ensures.cases.0 (two_hop_made c.args.self c.with.result c.in-Some.option.now c.in-Some.rest.now same c.with.ensures)

pub returns-in_ok-small-in-text : goal.returns-in_ok-small-in-text
returns-in_ok-small-in-text t c =
    rw (words_are t (goal.at.returns-in_ok-small-in-text t c).In_ok-word)
    (lanes_made c.args.self c.with-in-text.result c.in-Some.option.now c.in_ok-word.word.now c.in_ok-word.rest.now _ c.in-text.is c.in_ok-small-in-text.ensures c.with-in-text.ensures)

pub returns-in_ok-short-in-text-2 : goal.returns-in_ok-short-in-text-2
returns-in_ok-short-in-text-2 t c =
    rw (words_are t (goal.at.returns-in_ok-short-in-text-2 t c).In_ok-word)
    (root_made c.args.self c.with-in-text-2.result c.in-Some.option.now c.in_ok-word.word.now c.in_ok-word.rest.now _ c.in-text-2.is c.in_ok-short-in-text-2.ensures c.with-in-text-2.ensures)

pub returns-in-text-3 : goal.returns-in-text-3
returns-in-text-3 t c =
    rw (words_are t (goal.at.returns-in-text-3 t c).In_ok-word)
    (out_made c.args.self c.with-in-text-3.result c.in-Some.option.now c.in_ok-word.word.now c.in_ok-word.rest.now c.in-text-3.is c.with-in-text-3.ensures)
