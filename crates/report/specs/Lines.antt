-- The lines of the pairs of an accepted plan. Assumes nothing.
use Rattle.std.specs.Prelude.{◌≡◌, ℕ, zero, suc, ◌+◌, ◌⊎◌, List, [], ◌++◌}
use Rattle.rack.specs.Racks.{node_count}
use Rattle.routing.specs.Paths.{Routing, PairOf, EndsAtHop}
use Rattle.checking.specs.Plans.{level_at}
use Rattle.report.specs.Text.{pair_line}

-- a text that P holds of was put at the end
abbrev pub Adds : (List ℕ → Type 0) → List ℕ → List ℕ → Type 0
Adds P before after = (text : List ℕ) × P text × (after ≡ before ++ text)

module _ (g : Routing) (levels : List ℕ) where
  -- the line of the pair u, v: the path at its level ends at the receiver with some hop n, from 0, so it has n + 1 channels
  abbrev pub LineOf : ℕ → ℕ → List ℕ → Type 0
  LineOf u v text = (n : ℕ) × EndsAtHop g u v (level_at g.rack levels u v) n × (text ≡ pair_line u v (level_at g.rack levels u v) (n + 1))

  -- what is printed for sender u and receiver v: the line of the pair, and nothing for what is no pair of different hosts
  abbrev pub Printed : ℕ → ℕ → List ℕ → Type 0
  Printed u v text = (PairOf g.rack u v × LineOf u v text) ⊎ ((PairOf g.rack u v → ⊥) × (text ≡ []))

  -- what is printed for sender u and the receivers below a number, by ascending receiver
  abbrev pub ReceiversPrinted : ℕ → ℕ → List ℕ → Type 0
  ReceiversPrinted u zero text = text ≡ []
  ReceiversPrinted u (suc v) text = (before : List ℕ) × ReceiversPrinted u v before × Adds (Printed u v) before text

  -- what is printed for the senders below a number, by ascending sender
  abbrev pub SendersPrinted : ℕ → List ℕ → Type 0
  SendersPrinted zero text = text ≡ []
  SendersPrinted (suc u) text = (before : List ℕ) × SendersPrinted u before × Adds (ReceiversPrinted u (node_count g.rack)) before text

  -- the lines of all pairs
  abbrev pub AllPrinted : List ℕ → Type 0
  AllPrinted text = SendersPrinted (node_count g.rack) text
