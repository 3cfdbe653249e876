-- What the up-down source assigns. Assumes nothing.
use Rattle.std.specs.Prelude.{◌≡◌, ℕ, ◌+◌, ◌*◌, ◌<◌, Bool, cond, not, ◌&&◌, List, get_or, Some, None, Option, Result, MatchResult, slice_index}
use Rattle.rack.specs.declared.rack.Rack.{Rack}
use Rattle.rack.specs.Racks.{node_count, head, EntersSwitch, Host, Switch}
use Rattle.routing.specs.Sources.{enters_switch, is_end}
use Rattle.up_down.specs.declared.begin.Begin.{Begin}
use Rattle.up_down.specs.declared.source.UpDown.{UpDown}
use Rattle.up_down.specs.declared.fault.UpDownFault.{UpDownFault}
use Rattle.up_down.specs.declared.fault.UpDownFault.TheVariants.{Root, Unreachable, Memory}
use Rattle.up_down.specs.Ways.{PlainWay, Tiers, up, Begins, BeginsShortest}

-- what is named behind channel c towards host v: the lowest-numbered channel that begins a shortest way from the switch that c enters, upwards no more if c is down;
-- none without such a way, for a channel that enters no switch, or for no host
abbrev pub Names : Rack → (ℕ → ℕ) → ℕ → ℕ → Option ℕ → Type 0
Names r tier c v None = (w : ℕ) → EntersSwitch r c w → Host r v → (k d : ℕ) → Begins r tier v (not (up r tier c)) w k d → ⊥
Names r tier c v (Some d) = (w : ℕ) × EntersSwitch r c w × Host r v × ((k : ℕ) × BeginsShortest r tier v (not (up r tier c)) w k d)

-- what a source names goes up and then down over a root switch
pub record IsUpDown (r : Rack) (root : ℕ) (route : ℕ → ℕ → Option ℕ) : Type 0 where
  pub switch : Switch r root
  pub tier : ℕ → ℕ
  pub tiers : Tiers r root tier
  pub names : (c v : ℕ) → Names r tier c v (route c v)

-- why no source is made: the root is no switch; or it is one, and a node is out of reach, the first such, or there was no memory
abbrev pub Refuses : Rack → ℕ → UpDownFault → Type 0
Refuses r root (Root v) = (v.0 ≡ root) × (Switch r root → ⊥)
Refuses r root (Unreachable v) =
    Switch r root × (v.0 < node_count r) × ((k : ℕ) → PlainWay r root k v.0 → ⊥) × ((w : ℕ) → w < v.0 → (k : ℕ) × PlainWay r root k w)
Refuses r root Memory = Switch r root

-- the tiers that a source holds
abbrev pub tier_of : List ℕ → ℕ → ℕ
tier_of tiers w = slice_index tiers w

-- the first channel of a way, if there is one
abbrev pub first_of : Option Begin → Option ℕ
first_of None = None
first_of (Some b) = Some b.first.0

-- the table of ways that only go down, or of those that may go up first
abbrev pub table_of : UpDown → Bool → List (Option Begin)
table_of s down = cond down s.falling.items s.rising.items

-- what place N w + v of it tells
abbrev pub begin_at : UpDown → Bool → ℕ → ℕ → Option Begin
begin_at s down w v = get_or (table_of s down) (node_count s.rack.now * w + v) None

-- the source reads how the ways begin from the switch that the channel enters to the host, downwards only behind a channel that is down; none elsewhere
abbrev pub up_down_route : UpDown → ℕ → ℕ → Option ℕ
up_down_route s c v =
    cond (enters_switch s.rack.now c && is_end s.rack.now v) (first_of (begin_at s (not (up s.rack.now (tier_of s.tiers.items) c)) (head s.rack.now c) v)) None

-- what is answered where a source is asked for: one over that rack and root, or why there is none
abbrev pub Made : Rack → ℕ → Result UpDown UpDownFault → Type 0
Made r root made = MatchResult made (λ s. (s.rack.now ≡ r) × IsUpDown r root (up_down_route s)) (Refuses r root)
