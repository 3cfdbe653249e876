-- The rules that a record keeps, given the network that the records before it describe, and what reading answers. Assumes nothing.
use Rattle.std.specs.Prelude.{◌≡◌, ℕ, zero, suc, ◌+◌, ◌*◌, ◌/◌, ◌%◌, ◌^◌, ◌<◌, ◌≤◌, ◌⊎◌, List, [], ◌∷◌, ◌++◌, length, get_or, Some, None, Ok, Err, Option, Result, MatchResult, slice_index, slice_index_or}
use Rattle.rack.specs.declared.cable.Cable.{Cable}
use Rattle.reading.specs.declared.record.Entry.{Entry}
use Rattle.reading.specs.declared.record.Record.{Record}
use Rattle.reading.specs.declared.record.Record.TheVariants.{Node, Joins, Forwards}
use Rattle.reading.specs.declared.limits.Limits.{Limits}
use Rattle.reading.specs.declared.add.Counts.{Counts}
use Rattle.reading.specs.declared.fault.FileFault.{FileFault}
use Rattle.reading.specs.declared.fault.FileFault.TheVariants.{Tables, Length, Record as Broken, Uncabled as Bare}
use Rattle.reading.specs.declared.fault.Rule.{Rule}
use Rattle.reading.specs.declared.fault.Rule.TheVariants.{Form, Many, Number, End, Taken, Forwarding}
use Rattle.reading.specs.Format.{said}
use Rattle.rack.specs.Kinds.{code}
use Rattle.rack.specs.Network.{port_of, none, HostAt, SwitchAt, JoinsPorts, FreeEnd, Lonely, Leaves}

-- what a run of records describes: the nodes in order, 1 a host and 2 a switch, the cables and the forwarding entries
pub record Described : Type 0 where
  pub nodes : List ℕ
  pub cables : List Cable
  pub entries : List Entry

-- what stands past the last entry
abbrev pub nothing : Entry
nothing = record { switch = record { 0 = 0 }; host = record { 0 = 0 }; port = record { 0 = 0 } }

-- the entry says where to go from switch w to host v
abbrev pub Names : Entry → ℕ → ℕ → Type 0
Names e w v = (e.switch.0 ≡ w) × (e.host.0 ≡ v)

-- an entry names a switch, a host and a port of the switch that has a cable, and no entry before is for this switch and host
abbrev pub Entered : Described → Entry → Type 0
Entered net e =
    SwitchAt net.nodes e.switch.0 × HostAt net.nodes e.host.0
    × ((c : ℕ) × Leaves net.cables (port_of e.switch.0 e.port.0) c)
    × ((k : ℕ) → k < length net.entries → Names (slice_index_or net.entries k nothing) e.switch.0 e.host.0 → ⊥)

-- a rule, and what it asks
pub record Asks : Type 1 where
  pub rule : Rule
  pub holds : Type 0

-- the rule r asks P
abbrev by : Rule → Type 0 → Asks
by r P = record { rule = r; holds = P }

-- what is asked of a record after those that describe net, in order
abbrev pub asked : Limits → Described → Option Record → List Asks
asked limits net None = by Form ⊥ ∷ []
asked limits net (Some (Node kind v)) =
    by Form ((length net.cables ≡ 0) × (length net.entries ≡ 0)) ∷ by Many (length net.nodes < limits.nodes) ∷ by Number (v.0 ≡ length net.nodes) ∷ []
asked limits net (Some (Joins c)) =
    by Form (length net.entries ≡ 0) ∷ by Many (length net.cables < limits.cables) ∷ by End (JoinsPorts net.nodes c)
    ∷ by Taken (FreeEnd net.cables c.first × FreeEnd net.cables c.second) ∷ []
asked limits net (Some (Forwards e)) = by Forwarding (Entered net e) ∷ []

-- every rule is kept
abbrev pub Kept : List Asks → Type 0
Kept [] = Unit {0}
Kept (d ∷ ds) = d.holds × Kept ds

-- r is the first rule that is not kept
abbrev pub Breaks : List Asks → Rule → Type 0
Breaks [] r = ⊥
Breaks (d ∷ ds) r = ((d.rule ≡ r) × (d.holds → ⊥)) ⊎ (d.holds × Breaks ds r)

-- what is described with one record more
abbrev pub grown : Described → Option Record → Described
grown net None = net
grown net (Some (Node kind v)) = record { nodes = net.nodes ++ code kind ∷ []; cables = net.cables; entries = net.entries }
grown net (Some (Joins c)) = record { nodes = net.nodes; cables = net.cables ++ c ∷ []; entries = net.entries }
grown net (Some (Forwards e)) = record { nodes = net.nodes; cables = net.cables; entries = net.entries ++ e ∷ [] }

-- what the first i records of the file describe
abbrev pub described : List ℕ → ℕ → Described
described f zero = record { nodes = []; cables = []; entries = [] }
described f (suc i) = grown (described f i) (said f i)

-- the first i records each keep the rules
abbrev pub Fine : Limits → List ℕ → ℕ → Type 0
Fine limits f i = (j : ℕ) → j < i → Kept (asked limits (described f j) (said f j))

-- x says where to go from switch w to host v: 0 where no entry does, else one more than the channel
abbrev pub Forwarded : Described → ℕ → ℕ → ℕ → Type 0
Forwarded net w v x =
    ((x ≡ 0) × ((k : ℕ) → k < length net.entries → Names (slice_index_or net.entries k nothing) w v → ⊥))
    ⊎ ((k : ℕ) × (c : ℕ) × (k < length net.entries) × Names (slice_index_or net.entries k nothing) w v × Leaves net.cables (port_of w (get_or net.entries k nothing).port.0) c × (x ≡ c + 1))

-- what the tables hold, place by place: N w + v is the forwarding place of switch w and host v, with N the count of nodes
pub record Shown (net : Described) (counts : Counts) (nodes : List ℕ) (cables : List Cable) (forwarding : List ℕ) : Type 0 where
  pub node_count : counts.nodes ≡ length net.nodes
  pub cable_count : counts.cables ≡ length net.cables
  pub entry_count : counts.entries ≡ length net.entries
  pub node : (k : ℕ) → slice_index nodes k ≡ slice_index net.nodes k
  pub cable : (k : ℕ) → slice_index_or cables k none ≡ slice_index_or net.cables k none
  pub hop : (w v : ℕ) → v < length net.nodes → Forwarded net w v (slice_index forwarding (length net.nodes * w + v))
  -- without entries every forwarding place is 0: where there are no nodes, `hop` says nothing
  pub blank : length net.entries ≡ 0 → (k : ℕ) → slice_index forwarding k ≡ 0

-- what adding a record answers: the next counts, with tables that show the record too, or the first rule that it breaks
abbrev pub Judged : Limits → Described → Option Record → Result Counts Rule → List ℕ → List Cable → List ℕ → Type 0
Judged limits net said r nodes cables forwarding =
    MatchResult r (λ next. Kept (asked limits net said) × Shown (grown net said) next nodes cables forwarding) (Breaks (asked limits net said))

-- node v of what is described is a host that no cable ends at
abbrev pub Alone : Described → ℕ → Type 0
Alone net v = Lonely net.nodes net.cables v

-- what reading the file into tables that are long enough answers, and, where it is accepted, what they hold
abbrev pub Answers : Limits → List ℕ → Result Counts FileFault → List ℕ → List Cable → List ℕ → Type 0
Answers limits f (Ok counts) nodes cables forwarding =
    (length f % 8 ≡ 0) × Fine limits f (length f / 8) × ((v : ℕ) → Alone (described f (length f / 8)) v → ⊥) × Shown (described f (length f / 8)) counts nodes cables forwarding
Answers limits f (Err Tables) nodes cables forwarding = ⊥
Answers limits f (Err Length) nodes cables forwarding = length f % 8 ≡ 0 → ⊥
Answers limits f (Err (Broken i rule)) nodes cables forwarding =
    (length f % 8 ≡ 0) × (i < length f / 8) × Fine limits f i × Breaks (asked limits (described f i) (said f i)) rule
Answers limits f (Err (Bare v)) nodes cables forwarding =
    (length f % 8 ≡ 0) × Fine limits f (length f / 8) × Alone (described f (length f / 8)) v × ((u : ℕ) → u < v → Alone (described f (length f / 8)) u → ⊥)

-- the tables have the places that reading asks for
abbrev pub Sized : List ℕ → List Cable → List ℕ → Type 0
Sized nodes cables forwarding = (128 ≤ length nodes) × (256 ≤ length cables) × (16384 ≤ length forwarding)

-- there are no more nodes and cables than the tables have places, and one entry more can be counted
abbrev pub CountsFit : Counts → Type 0
CountsFit counts = (counts.nodes ≤ 128) × (counts.cables ≤ 256) × (counts.entries < 2 ^ 61)

-- every place is zero
abbrev pub Blank : List ℕ → List Cable → List ℕ → Type 0
Blank nodes cables forwarding =
    ((k : ℕ) → slice_index nodes k ≡ 0) × ((k : ℕ) → slice_index_or cables k none ≡ none) × ((k : ℕ) → slice_index forwarding k ≡ 0)
