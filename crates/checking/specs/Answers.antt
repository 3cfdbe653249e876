-- What the check answers, and what every table holds then. Assumes nothing.
use Rattle.std.specs.Prelude.{◌≡◌, ℕ, ◌*◌, ◌≤◌, true, ◌⊎◌, List, length, drop, is_ok, Ok, Err, Result}
use Rattle.rack.specs.declared.rack.Rack.{Rack}
use Rattle.rack.specs.Racks.{channel_count}
use Rattle.ranking.specs.Graphs.{NoRing, Ranked, Ringed}
use Rattle.routing.specs.Turns.{turn_count}
use Rattle.routing.specs.Paths.{Routing}
use Rattle.checking.specs.declared.acceptance.Acceptance.{Acceptance}
use Rattle.checking.specs.declared.fault.CheckFault.{CheckFault}
use Rattle.checking.specs.declared.fault.CheckFault.TheVariants.{Lanes, Tables, Level, Walk, Ring, Memory}
use Rattle.routing.specs.Plans.{OneToEight}
use Rattle.checking.specs.Starts.{Long}
use Rattle.checking.specs.Words.{FollowedBy, ChannelFollowedBy}
use Rattle.checking.specs.Plans.{AllFine, IsFollowedBy, Exact, FirstFault, Sound, Rises}

-- the three tables that the check writes
pub record TablesAt : Type 0 where
  pub dependencies : List ℕ
  pub ranks : List ℕ
  pub ring : List ℕ

-- a dependency, a rank and a ring table, put together
abbrev pub tables_at : List ℕ → List ℕ → List ℕ → TablesAt
tables_at dependencies ranks ring = record { dependencies = dependencies; ranks = ranks; ring = ring }

-- the dependency table is written, whole and exact, and nothing beyond it
abbrev pub Written : Routing → List ℕ → List ℕ → List ℕ → Type 0
Written g levels before after = Exact g levels after × (drop (turn_count (channel_count g.rack)) after ≡ drop (turn_count (channel_count g.rack)) before)

-- the lane count is in range and the tables are long enough
abbrev pub Starts : Routing → List ℕ → ℕ → TablesAt → Type 0
Starts g levels lanes t = OneToEight lanes × Long g.rack (length levels) (length t.dependencies) (length t.ranks) (length t.ring)

-- what each answer of the check says of the plan, with the tables before and after
abbrev pub Checked : Routing → List ℕ → ℕ → TablesAt → TablesAt → Result Acceptance CheckFault → Type 0
Checked g levels lanes before after (Ok a) =
    Starts g levels lanes before × AllFine g levels lanes × Written g levels before.dependencies after.dependencies
    × Ranked (IsFollowedBy g levels) (8 * channel_count g.rack) a.greatest before.ranks after.ranks × (after.ring ≡ before.ring)
Checked g levels lanes before after (Err (Ring n)) =
    Starts g levels lanes before × AllFine g levels lanes × Written g levels before.dependencies after.dependencies
    × Ringed (IsFollowedBy g levels) (8 * channel_count g.rack) n before.ranks after.ranks before.ring after.ring
Checked g levels lanes before after (Err Memory) = Starts g levels lanes before × (after ≡ before)
Checked g levels lanes before after (Err Lanes) = (OneToEight lanes → ⊥) × (after ≡ before)
Checked g levels lanes before after (Err Tables) = OneToEight lanes × (Starts g levels lanes before → ⊥) × (after ≡ before)
Checked g levels lanes before after (Err (Level p)) = Starts g levels lanes before × FirstFault g levels lanes (Level p) × (after ≡ before)
Checked g levels lanes before after (Err (Walk f)) = Starts g levels lanes before × FirstFault g levels lanes (Walk f) × (after ≡ before)

-- accepted, or no memory for it
abbrev pub Accepted : Result Acceptance CheckFault → Type 0
Accepted r = (is_ok r ≡ true) ⊎ (r ≡ Err Memory)

-- what is accepted is sound; and if the check can start, every sound plan is accepted, unless memory is wanting
abbrev pub ExactlySound : Routing → List ℕ → ℕ → TablesAt → Result Acceptance CheckFault → Type 0
ExactlySound g levels lanes before r = (is_ok r ≡ true → Sound g levels lanes) × (Starts g levels lanes before → Sound g levels lanes → Accepted r)

-- if the check can start, every plan whose pairs are fine and whose lane rises from switch to switch is accepted, unless memory is wanting
abbrev pub RisingAccepted : Routing → List ℕ → ℕ → TablesAt → Result Acceptance CheckFault → Type 0
RisingAccepted g levels lanes before r = Starts g levels lanes before → AllFine g levels lanes → Rises g levels → Accepted r

-- the dependency, rank and ring tables of the bare check have the places needed
abbrev pub BareLong : Rack → List ℕ → List ℕ → List ℕ → Type 0
BareLong r table ranks ring = (turn_count (channel_count r) ≤ length table) × (channel_count r ≤ length ranks) × (channel_count r ≤ length ring)

-- what the bare check answers: the tables are too short; else the ranks of the channels, and then no virtual channels follow one another in a ring either; else a ring of channels
abbrev pub BareChecked : Rack → List ℕ → List ℕ → List ℕ → List ℕ → List ℕ → Result ℕ CheckFault → Type 0
BareChecked r table s t u v (Ok top) =
    BareLong r table s u × Ranked (ChannelFollowedBy r table) (channel_count r) top s t × (v ≡ u) × NoRing (FollowedBy r table)
BareChecked r table s t u v (Err (Ring n)) = BareLong r table s u × Ringed (ChannelFollowedBy r table) (channel_count r) n s t u v
BareChecked r table s t u v (Err Tables) = (BareLong r table s u → ⊥) × (t ≡ s) × (v ≡ u)
BareChecked r table s t u v (Err Lanes) = ⊥
BareChecked r table s t u v (Err (Level p)) = ⊥
BareChecked r table s t u v (Err (Walk f)) = ⊥
BareChecked r table s t u v (Err Memory) = ⊥
