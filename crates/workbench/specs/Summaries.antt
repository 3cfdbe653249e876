-- The lines of a summary, as bytes. Assumes nothing.
use Rattle.std.specs.Prelude.{◌≡◌, ℕ, ◌-◌, ◌*◌, ◌/◌, List, [], ◌∷◌, ◌++◌, ◌==◌, codes, decimal}
use Rattle.std.specs.List.{count_by}
use Rattle.rack.specs.declared.rack.Rack.{Rack}
use Rattle.rack.specs.Racks.{nodes_of, node_count, channel_count}
use Rattle.routing.specs.Paths.{Routing, PairOf}
use Rattle.report.specs.Text.{ending}
use Rattle.workbench.specs.declared.summary.RackSize.{RackSize}
use Rattle.workbench.specs.declared.summary.LanesUsed.{LanesUsed}
use Rattle.workbench.specs.declared.summary.Lengths.{Lengths}
use Rattle.workbench.specs.declared.summary.Summary.{Summary}
use Rattle.workbench.specs.Tallies.{Uses}

-- the three lines of a summary
abbrev pub rack_line : RackSize → List ℕ
rack_line s = codes "nodes " ++ (decimal s.nodes ++ (codes " cables " ++ (decimal s.cables ++ (codes " pairs" ++ ending (s.pairs ∷ [])))))

abbrev pub lanes_line : LanesUsed → List ℕ
lanes_line u = codes "lanes " ++ (decimal u.lane_count ++ (codes " lanes used " ++ (decimal u.lanes ++ (codes " levels used" ++ ending (u.levels ∷ [])))))

abbrev pub paths_line : Lengths → List ℕ
paths_line l = codes "longest path " ++ (decimal l.longest ++ (codes " greatest rank" ++ ending (l.greatest ∷ [])))

-- the size of the rack, the lanes and levels, the paths and ranks, each on its line
abbrev pub summary_text : Summary → List ℕ
summary_text s = rack_line s.size ++ (lanes_line s.used ++ paths_line s.lengths)

-- how many hosts a rack has: of the kind 1 in its node table
abbrev pub host_count : Rack → ℕ
host_count r = count_by (λ kind. kind == 1) (nodes_of r)

-- the summary is that of a plan with so many lanes: the size of its rack, where each host sends to each other, what the paths of all pairs use, and the greatest rank
pub record Sums (g : Routing) (levels : List ℕ) (count greatest : ℕ) (s : Summary) : Type 0 where
  pub nodes : s.size.nodes ≡ node_count g.rack
  pub cables : s.size.cables ≡ channel_count g.rack / 2
  pub pairs : s.size.pairs ≡ host_count g.rack * (host_count g.rack - 1)
  pub lanes : s.used.lane_count ≡ count
  pub uses : Uses g levels (PairOf g.rack) s.used.lanes s.used.levels s.lengths.longest
  pub top : s.lengths.greatest ≡ greatest
