-- The lines of the pairs in their order, one more at a time. Assumes nothing.
use Rattle.std.proofs.Common.{◌≡◌, ℕ, suc, ◌+◌, None, Some, List, [], ◌++◌, sym, refl, ap, ◌∙◌, subst, inl, inr, append_assoc, append-nil}
use Rattle.rack.specs.Racks.{node_count}
use Rattle.routing.specs.declared.pair.Pair.{Pair}
use Rattle.routing.specs.Paths.{Routing, PairOf}
use Rattle.routing.specs.Pairs.{pair_place, NextPair}
use Rattle.routing.proofs.PairOrder.{Taken, taken_start, taken_next, taken_more, taken_end}
use Rattle.report.specs.Lines.{Adds, LineOf, Printed, ReceiversPrinted, SendersPrinted, AllPrinted}

-- a text that P holds of was added, and then one that Q holds of
adds_both : (P Q : List ℕ → Type 0) (x y z : List ℕ) → Adds P x y → Adds Q y z → Adds (λ text. (before : List ℕ) × P before × Adds Q before text) x z
adds_both P Q x y z a b = (a.0 ++ b.0, (a.0, a.1, (b.0, b.1, refl)), b.2 ∙ ap (λ t. t ++ b.0) a.2 ∙ append_assoc x a.0 b.0)

-- P holds of no text, and nothing was added
nothing : (P : List ℕ → Type 0) (x : List ℕ) → P [] → Adds P x x
nothing P x p = ([], p, sym (append-nil x))

module _ (g : Routing) (levels initial : List ℕ) where
  -- printed are the senders below u, and of u the receivers below v
  abbrev pub SoFar : List ℕ → ℕ → ℕ → Type 0
  SoFar now u v = (mid : List ℕ) × Adds (SendersPrinted g levels u) initial mid × Adds (ReceiversPrinted g levels u v) mid now

  pub row : (now : List ℕ) (u : ℕ) → SoFar now u (node_count g.rack) → SoFar now (suc u) 0
  row now u h = (now, adds_both (SendersPrinted g levels u) (ReceiversPrinted g levels u (node_count g.rack)) initial h.0 now h.1 h.2, nothing (ReceiversPrinted g levels (suc u) 0) now refl)

  printed : (was now : List ℕ) (u v : ℕ) → SoFar was u v → Adds (Printed g levels u v) was now → SoFar now u (suc v)
  printed was now u v h one = (h.0, h.1, adds_both (ReceiversPrinted g levels u v) (Printed g levels u v) h.0 was now h.2 one)

  pub skip : (now : List ℕ) (u v : ℕ) → (PairOf g.rack u v → ⊥) → SoFar now u v → SoFar now u (suc v)
  skip now u v none h = printed now now u v h (nothing (Printed g levels u v) now (inr (none, refl)))

  -- the pairs before a place are printed
  abbrev pub PrintedFrom : ℕ → List ℕ → Type 0
  PrintedFrom from now = Taken g.rack (SoFar now) (row now) (skip now) from

  pub pairs_start : PrintedFrom 0 initial
  pairs_start = taken_start g.rack (SoFar initial) (row initial) (skip initial) (initial, nothing (SendersPrinted g levels 0) initial refl, nothing (ReceiversPrinted g levels 0 0) initial refl)

  pub pairs_more : (from : ℕ) (p : Pair) (was now : List ℕ) → NextPair g.rack from (Some p) → PrintedFrom from was → Adds (LineOf g levels p.sender.0 p.receiver.0) was now → PrintedFrom (pair_place g.rack p.sender.0 p.receiver.0 + 1) now
  pairs_more from p was now next t line =
      let h = taken_next g.rack (SoFar was) (row was) (skip was) from p next t in
      taken_more g.rack (SoFar now) (row now) (skip now) p.sender.0 p.receiver.0 next.0 (printed was now p.sender.0 p.receiver.0 h (line.0, inl (next.0, line.1), line.2))

  pub pairs_end : (from : ℕ) (now : List ℕ) → NextPair g.rack from None → PrintedFrom from now → Adds (AllPrinted g levels) initial now
  pairs_end from now none t =
      let h = taken_end g.rack (SoFar now) (row now) (skip now) from none t in
      let same : now ≡ h.0 = h.2.2 ∙ ap (λ x. h.0 ++ x) h.2.1 ∙ append-nil h.0 in
      subst (Adds (AllPrinted g levels) initial) (sym same) h.1
