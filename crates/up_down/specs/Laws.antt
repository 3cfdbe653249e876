-- The laws of the up-down source. Assumes nothing.
use Rattle.std.specs.Prelude.{◌≡◌, ℕ, suc, ◌*◌, ◌<◌, false, List, Option, Result, MatchResult, slice_index}
use Rattle.rack.specs.declared.rack.Rack.{Rack}
use Rattle.rack.specs.Racks.{node_count, channel_count, Switch}
use Rattle.routing.specs.Turns.{lane_bytes, stored_lane}
use Rattle.routing.specs.Paths.{Routing, routing, Hop, PairOf, OnPath}
use Rattle.checking.specs.declared.acceptance.Acceptance.{Acceptance}
use Rattle.checking.specs.declared.fault.CheckFault.{CheckFault}
use Rattle.checking.specs.Plans.{Sound}
use Rattle.checking.specs.Answers.{TablesAt, Checked, Starts, Accepted}
use Rattle.up_down.specs.declared.source.UpDown.{UpDown}
use Rattle.up_down.specs.declared.fault.UpDownFault.{UpDownFault}
use Rattle.up_down.specs.declared.fault.UpDownFault.TheVariants.{Memory}
use Rattle.up_down.specs.Ways.{up, Connected}
use Rattle.up_down.specs.Sources.{IsUpDown, Made, up_down_route}

-- the first n places of a table are 0
abbrev pub Zeros : ℕ → List ℕ → Type 0
Zeros n table = (k : ℕ) → k < n → slice_index table k ≡ 0

-- the lane table and the path table of a rack are all 0
abbrev pub ZeroTables : Rack → List ℕ → List ℕ → Type 0
ZeroTables r lanes levels = Zeros (lane_bytes (channel_count r)) lanes × Zeros (node_count r * node_count r) levels

-- no packet goes up after going down: behind a channel that is down, the next channel of a path is down
abbrev pub DownStaysDown : Type 0
DownStaysDown =
    (g : Routing) (root : ℕ) (over : IsUpDown g.rack root g.next) (u v s i : ℕ) (h o : Hop) → PairOf g.rack u v → OnPath g u v s i h → OnPath g u v s (suc i) o →
    up g.rack over.tier h.channel ≡ false → up g.rack over.tier o.channel ≡ false

-- with a zero lane table, zero levels and one lane, a plan over an up-down source is sound, and the check accepts it wherever it can start, unless memory is wanting
pub record Accepts (g : Routing) (levels : List ℕ) : Type 0 where
  pub sound : Sound g levels 1
  pub accepted : (before after : TablesAt) (a : Result Acceptance CheckFault) → Starts g levels 1 before → Checked g levels 1 before after a → Accepted a

abbrev pub UpDownAccepted : Type 0
UpDownAccepted =
    (r : Rack) (root : ℕ) (route : ℕ → ℕ → Option ℕ) (lanes levels : List ℕ) → IsUpDown r root route → ZeroTables r lanes levels →
    Accepts (routing r route (stored_lane r lanes)) levels

-- over a switch of a rack whose nodes all connect, whatever is answered where a source is asked for: it is one whose plans are accepted so, or memory is wanting
abbrev pub AcceptedWhereAllConnect : Type 0
AcceptedWhereAllConnect =
    (r : Rack) (root : ℕ) (made : Result UpDown UpDownFault) (lanes levels : List ℕ) → Connected r → Switch r root → Made r root made → ZeroTables r lanes levels →
    MatchResult made (λ s. Accepts (routing r (up_down_route s) (stored_lane r lanes)) levels) (λ f. f ≡ Memory)
