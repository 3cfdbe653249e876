-- What the console prints for a file. Assumes nothing.
use Rattle.std.specs.Prelude.{◌≡◌, ℕ, ◌*◌, ◌<◌, ◌≤◌, ◌⊎◌, List, ◌++◌, length, take, Some, None, Ok, Err, Option}
use Rattle.reading.specs.declared.add.Counts.{Counts}
use Rattle.rack.specs.declared.cable.Cable.{Cable}
use Rattle.reading.specs.declared.limits.Limits.{Limits}
use Rattle.rack.specs.declared.rack.Rack.{Rack}
use Rattle.rack.specs.Racks.{nodes_of, cables_of, node_count, channel_count}
use Rattle.reading.specs.Rules.{Answers}
use Rattle.ranking.specs.Graphs.{Ranked}
use Rattle.routing.specs.Sources.{stored_route, downhill_route}
use Rattle.routing.specs.Ways.{Distances}
use Rattle.checking.specs.Plans.{IsFollowedBy, Sound}
use Rattle.builder.specs.declared.fault.BuildFault.{BuildFault}
use Rattle.builder.specs.Method.{tables, Built}
use Rattle.builder.specs.Outcomes.{FirstLacks}
use Rattle.planning.specs.Plans.{planned}
use Rattle.report.specs.declared.refusal.Refusal.{Refusal}
use Rattle.report.specs.declared.refusal.Refusal.TheVariants.{File, Rack as Unmade, Distance, Build, Check, Memory}
use Rattle.report.specs.declared.refusal.Told.{Told}
use Rattle.report.specs.Text.{accepted_line, refused_line}
use Rattle.report.specs.Refusals.{told}
use Rattle.report.specs.Lines.{AllPrinted}

-- so many nodes and cables are let in
abbrev pub LetsIn : ℕ → ℕ → Limits → Type 0
LetsIn nodes cables limits = (limits.nodes ≡ nodes) × (limits.cables ≡ cables)

-- plans have eight lanes
abbrev pub lane_count : ℕ
lane_count = 8

-- where so many nodes and cables are let in, the file is accepted, and gives this rack, so many forwarding entries and this forwarding table
pub record Reads (most_nodes most_cables : ℕ) (file : List ℕ) (r : Rack) (entries : ℕ) (forwarding : List ℕ) : Type 0 where
  pub limits : Limits
  pub counts : Counts
  pub nodes : List ℕ
  pub cables : List Cable
  pub lets_in : LetsIn most_nodes most_cables limits
  pub answers : Answers limits file (Ok counts) nodes cables forwarding
  pub all_nodes : nodes_of r ≡ take counts.nodes nodes
  pub all_cables : cables_of r ≡ take counts.cables cables
  pub all_entries : counts.entries ≡ entries

-- packets go downhill, over the true distances
abbrev pub DownhillRouted : Rack → (ℕ → ℕ → Option ℕ) → Type 0
DownhillRouted r route =
    (distances : List ℕ) × (node_count r * node_count r ≤ length distances) × Distances r distances × (route ≡ downhill_route r distances)

-- packets go by the forwarding entries if there are any, and else downhill
abbrev pub Forwards : Rack → ℕ → List ℕ → (ℕ → ℕ → Option ℕ) → Type 0
Forwards r entries forwarding route = ((0 < entries) × (route ≡ stored_route r forwarding)) ⊎ ((entries ≡ 0) × DownhillRouted r route)

-- the console lets in 12 nodes and 16 cables, and the file gives this rack and this forwarding
abbrev pub Gives : List ℕ → Rack → (ℕ → ℕ → Option ℕ) → Type 0
Gives file r route = (entries : ℕ) × (forwarding : List ℕ) × Reads 12 16 file r entries forwarding × Forwards r entries forwarding route

-- why a file is refused: its first fault; or else the first pair that lacks a path, a lane or a level; for nothing else
abbrev pub Refused : List ℕ → Refusal → Type 0
Refused file (File f) =
    (limits : Limits) × (nodes : List ℕ) × (cables : List Cable) × (forwarding : List ℕ) × LetsIn 12 16 limits × Answers limits file (Err f) nodes cables forwarding
Refused file (Unmade f) = ⊥
Refused file (Distance f) = ⊥
Refused file (Build f) = (r : Rack) × (route : ℕ → ℕ → Option ℕ) × Gives file r route × FirstLacks r route lane_count f
Refused file (Check f) = ⊥
Refused file Memory = ⊥

-- the text of the plan that the method builds: it is sound, its greatest rank stands in the first line, and the lines of all pairs follow
pub record PlannedText (r : Rack) (route : ℕ → ℕ → Option ℕ) (text : List ℕ) : Type 0 where
  pub lanes : List ℕ
  pub levels : List ℕ
  pub greatest : ℕ
  pub ranks : List ℕ
  pub lines : List ℕ
  pub built : Built r route lane_count (tables lanes levels)
  pub sound : Sound (planned r route lanes) levels lane_count
  pub ranked : Ranked (IsFollowedBy (planned r route lanes) levels) (8 * channel_count r) greatest ranks ranks
  pub printed : AllPrinted (planned r route lanes) levels lines
  pub whole : text ≡ accepted_line greatest ++ lines

-- the text of a file that is accepted
abbrev pub AcceptedText : List ℕ → List ℕ → Type 0
AcceptedText file text = (r : Rack) × (route : ℕ → ℕ → Option ℕ) × Gives file r route × PlannedText r route text

-- the text of a file that is refused: one line, that tells why
abbrev pub RefusedText : List ℕ → List ℕ → Type 0
RefusedText file text = (f : Refusal) × (t : Told) × Refused file f × (told f ≡ Some t) × (text ≡ refused_line t)

-- what is printed for a file
abbrev pub Reports : List ℕ → List ℕ → Type 0
Reports file text = RefusedText file text ⊎ AcceptedText file text

-- why there is no text: memory was wanting, or the file is refused; this and all that follows is for the inner functions
abbrev pub Untold : List ℕ → Refusal → Type 0
Untold file f = (told f ≡ None) ⊎ Refused file f

-- why there is no plan over a forwarding: memory was wanting, or else the first pair that lacks a path, a lane or a level
abbrev pub Unplanned : Rack → (ℕ → ℕ → Option ℕ) → Refusal → Type 0
Unplanned r route f = (told f ≡ None) ⊎ ((b : BuildFault) × (f ≡ Build b) × FirstLacks r route lane_count b)

-- why there is no plan over some forwarding that R holds of: memory was wanting, or else the first pair that lacks something there
abbrev pub SomeLack : Rack → ((ℕ → ℕ → Option ℕ) → Type 0) → Refusal → Type 0
SomeLack r R f = (told f ≡ None) ⊎ ((route : ℕ → ℕ → Option ℕ) × (b : BuildFault) × R route × (f ≡ Build b) × FirstLacks r route lane_count b)

-- the text of the plan over some forwarding that R holds of
abbrev pub SomeText : Rack → ((ℕ → ℕ → Option ℕ) → Type 0) → List ℕ → Type 0
SomeText r R text = (route : ℕ → ℕ → Option ℕ) × R route × PlannedText r route text
