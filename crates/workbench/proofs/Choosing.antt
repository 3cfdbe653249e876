-- Options that are taken one at a time. Assumes nothing.
use Rattle.std.proofs.Common.{◌≡◌, ℕ, List, [], ◌∷◌, Some, None, Option, MatchOption, sym, ◌∙◌, subst, inl, inr, Bor, codes}
use Rattle.workbench.specs.declared.arguments.BuildTask.{BuildTask}
use Rattle.workbench.specs.Words.{Writes}
use Rattle.workbench.specs.Commands.{with_lanes, with_two_hop, with_root, with_out, Options}

-- the task that the words make of task t, or that they make none
abbrev pub Made : BuildTask → List (Bor (List ℕ)) → Option BuildTask → Type 0
Made t ws o = MatchOption o ((u : BuildTask) → Options t ws u → ⊥) (Options t ws)

-- what is made of two tasks by two lists of words is the same
same_made : (t v : BuildTask) (ws rest : List (Bor (List ℕ))) (o : Option BuildTask) → ((u : BuildTask) → Options v rest u → Options t ws u) → ((u : BuildTask) → Options t ws u → Options v rest u) → Made v rest o → Made t ws o
same_made t v ws rest None to from made = λ u h. made u (from u h)
same_made t v ws rest (Some u) to from made = to u made

module _ (t u : BuildTask) (option : Bor (List ℕ)) where
  two_hop_taken : (rest : List (Bor (List ℕ))) → option.now ≡ codes "--two-hop" → Options (with_two_hop t) rest u → Options t (option ∷ rest) u
  two_hop_taken [] e h = (e, h)
  two_hop_taken (word ∷ rest) e h = inl (e, h)

  two_hop_first : (rest : List (Bor (List ℕ))) → option.now ≡ codes "--two-hop" → Options t (option ∷ rest) u → Options (with_two_hop t) rest u
  two_hop_first [] e h = h.1
  two_hop_first (word ∷ rest) e (inl h) = h.1
  two_hop_first (word ∷ rest) e (inr (inl h)) = absurd cc
  two_hop_first (word ∷ rest) e (inr (inr (inl h))) = absurd cc
  two_hop_first (word ∷ rest) e (inr (inr (inr h))) = absurd cc

  module _ (word : Bor (List ℕ)) (rest : List (Bor (List ℕ))) where
    lanes_first : (n : ℕ) → Writes 8 word.now n → option.now ≡ codes "--lanes" → Options t (option ∷ word ∷ rest) u → Options (with_lanes t n) rest u
    lanes_first n w e (inl h) = absurd cc
    lanes_first n w e (inr (inl h)) = subst (λ m. Options (with_lanes t m) rest u) (sym h.1.1.1 ∙ w.1) h.1.2
    lanes_first n w e (inr (inr (inl h))) = absurd cc
    lanes_first n w e (inr (inr (inr h))) = absurd cc

    root_first : (n : ℕ) → Writes 16 word.now n → option.now ≡ codes "--root" → Options t (option ∷ word ∷ rest) u → Options (with_root t n) rest u
    root_first n w e (inl h) = absurd cc
    root_first n w e (inr (inl h)) = absurd cc
    root_first n w e (inr (inr (inl h))) = subst (λ m. Options (with_root t m) rest u) (sym h.1.1.1 ∙ w.1) h.1.2
    root_first n w e (inr (inr (inr h))) = absurd cc

    out_first : option.now ≡ codes "--out" → Options t (option ∷ word ∷ rest) u → Options (with_out t word) rest u
    out_first e (inl h) = absurd cc
    out_first e (inr (inl h)) = absurd cc
    out_first e (inr (inr (inl h))) = absurd cc
    out_first e (inr (inr (inr h))) = h.1

-- an option stands first, with or without a word behind it
module _ (t : BuildTask) (o : Option BuildTask) (option : Bor (List ℕ)) where
  pub two_hop_made : (rest : List (Bor (List ℕ))) → option.now ≡ codes "--two-hop" → Made (with_two_hop t) rest o → Made t (option ∷ rest) o
  two_hop_made rest e made = same_made t (with_two_hop t) (option ∷ rest) rest o (λ u h. two_hop_taken t u option rest e h) (λ u h. two_hop_first t u option rest e h) made

  module _ (word : Bor (List ℕ)) (rest : List (Bor (List ℕ))) where
    pub lanes_made : (n : ℕ) → option.now ≡ codes "--lanes" → Writes 8 word.now n → Made (with_lanes t n) rest o → Made t (option ∷ word ∷ rest) o
    lanes_made n e w made = same_made t (with_lanes t n) (option ∷ word ∷ rest) rest o (λ u h. inr (inl (e, (n, w, h)))) (λ u h. lanes_first t u option word rest n w e h) made

    pub root_made : (n : ℕ) → option.now ≡ codes "--root" → Writes 16 word.now n → Made (with_root t n) rest o → Made t (option ∷ word ∷ rest) o
    root_made n e w made = same_made t (with_root t n) (option ∷ word ∷ rest) rest o (λ u h. inr (inr (inl (e, (n, w, h))))) (λ u h. root_first t u option word rest n w e h) made

    pub out_made : option.now ≡ codes "--out" → Made (with_out t word) rest o → Made t (option ∷ word ∷ rest) o
    out_made e made = same_made t (with_out t word) (option ∷ word ∷ rest) rest o (λ u h. inr (inr (inr (e, h)))) (λ u h. out_first t u option word rest e h) made
