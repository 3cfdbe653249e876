-- The laws of rack files and of the tables that they give. Assumes nothing.
use Rattle.std.specs.Prelude.{◌≡◌, ℕ, ◌<◌, ◌≤◌, ◌⊎◌, List, [], length, take, Ok, Result, slice_index, slice_index_or}
use Rattle.reading.specs.declared.add.Counts.{Counts}
use Rattle.rack.specs.declared.cable.Cable.{Cable}
use Rattle.rack.specs.declared.cable.End.{End}
use Rattle.reading.specs.declared.fault.FileFault.{FileFault}
use Rattle.reading.specs.declared.limits.Limits.{Limits}
use Rattle.rack.specs.Network.{none, channels, tail_end, head_end, HostAt, SwitchAt, EndsAt, Apart, KeepsRules, Leaves}
use Rattle.reading.specs.Rules.{Answers, Fine, described}
use Rattle.rack_laws.specs.Written.{written, counted}

-- a file has one answer
abbrev pub OneAnswer : Type 0
OneAnswer =
    (limits : Limits) (f : List ℕ) (r s : Result Counts FileFault) (nodes nodes' : List ℕ) (cables cables' : List Cable) (forwarding forwarding' : List ℕ)
    → Answers limits f r nodes cables forwarding → Answers limits f s nodes' cables' forwarding' → r ≡ s

-- an accepted file gives every place of the three tables one value
abbrev pub OneValue : Type 0
OneValue =
    (limits : Limits) (f : List ℕ) (a b : Counts) (nodes nodes' : List ℕ) (cables cables' : List Cable) (forwarding forwarding' : List ℕ)
    → Answers limits f (Ok a) nodes cables forwarding → Answers limits f (Ok b) nodes' cables' forwarding'
    → ((k : ℕ) → slice_index nodes k ≡ slice_index nodes' k) × ((k : ℕ) → slice_index_or cables k none ≡ slice_index_or cables' k none) × ((k : ℕ) → slice_index forwarding k ≡ slice_index forwarding' k)

-- where the first records of a file keep the rules, no two of their cables share a port
abbrev pub PortsApart : Type 0
PortsApart = (limits : Limits) (f : List ℕ) (i : ℕ) → Fine limits f i → Apart (described f i).cables

-- the tables of an accepted file, as far as they are used, keep the rules of a rack
abbrev pub AcceptedKeeps : Type 0
AcceptedKeeps =
    (limits : Limits) (f : List ℕ) (counts : Counts) (nodes : List ℕ) (cables : List Cable) (forwarding : List ℕ)
    → Answers limits f (Ok counts) nodes cables forwarding → KeepsRules (take counts.nodes nodes) (take counts.cables cables)

-- channel c leaves node v
abbrev pub OutOf : List Cable → ℕ → ℕ → Type 0
OutOf cables v c = (c < channels cables) × ((tail_end cables c).node.0 ≡ v)

-- where the rules are kept, exactly one channel leaves each host, and it enters a switch
abbrev pub OneWayOut : Type 0
OneWayOut =
    (nodes : List ℕ) (cables : List Cable) → KeepsRules nodes cables → (v : ℕ) → HostAt nodes v
    → (c : ℕ) × OutOf cables v c × SwitchAt nodes (head_end cables c).node.0 × ((d : ℕ) → OutOf cables v d → d ≡ c)

-- the cable has an end at node v
abbrev pub EndsOn : Cable → ℕ → Type 0
EndsOn c v = (c.first.node.0 ≡ v) ⊎ (c.second.node.0 ≡ v)

-- one end of the cable is at node v, and the other at a switch
abbrev pub LeadsToSwitch : List ℕ → Cable → ℕ → Type 0
LeadsToSwitch nodes c v =
    ((c.first.node.0 ≡ v) × SwitchAt nodes c.second.node.0) ⊎ ((c.second.node.0 ≡ v) × SwitchAt nodes c.first.node.0)

-- where the rules are kept, each host has exactly one cable, and its other end is at a switch
abbrev pub OneCable : Type 0
OneCable =
    (nodes : List ℕ) (cables : List Cable) → KeepsRules nodes cables → (v : ℕ) → HostAt nodes v
    → (k : ℕ) × (k < length cables) × LeadsToSwitch nodes (slice_index_or cables k none) v × ((j : ℕ) → j < length cables → EndsOn (slice_index_or cables j none) v → j ≡ k)

-- where the rules are kept, at most one cable ends at a port, and at most one channel leaves there
abbrev pub OneAtPort : Type 0
OneAtPort =
    (nodes : List ℕ) (cables : List Cable) → KeepsRules nodes cables → (e : End)
    → ((j k : ℕ) → (j < length cables) × EndsAt (slice_index_or cables j none) e → (k < length cables) × EndsAt (slice_index_or cables k none) e → j ≡ k)
    × ((c d : ℕ) → Leaves cables e c → Leaves cables e d → c ≡ d)

-- the file written out from tables that keep the rules is of bytes, and a reading that lets as many in accepts it with these tables
abbrev pub WrittenAccepted : Type 0
WrittenAccepted =
    (limits : Limits) (nodes : List ℕ) (cables : List Cable)
    → KeepsRules nodes cables → length nodes ≤ limits.nodes → length cables ≤ limits.cables
    → ((k : ℕ) → slice_index (written nodes cables) k < 256) × Answers limits (written nodes cables) (Ok (counted nodes cables)) nodes cables []

-- and that is all that reading it can answer: these counts, with tables that begin with these nodes and cables and forward nothing
abbrev pub WrittenRead : Type 0
WrittenRead =
    (limits : Limits) (nodes : List ℕ) (cables : List Cable)
    → KeepsRules nodes cables → length nodes ≤ limits.nodes → length cables ≤ limits.cables
    → (r : Result Counts FileFault) (nodes' : List ℕ) (cables' : List Cable) (forwarding' : List ℕ) → Answers limits (written nodes cables) r nodes' cables' forwarding'
    → (r ≡ Ok (counted nodes cables)) × (take (length nodes) nodes' ≡ nodes) × (take (length cables) cables' ≡ cables) × ((k : ℕ) → slice_index forwarding' k ≡ 0)

-- the file is accepted, and its tables begin with these nodes and cables and have no more
abbrev pub Gives : Limits → List ℕ → List ℕ → List Cable → Type 0
Gives limits f nodes cables =
    (counts : Counts) × (nodes' : List ℕ) × (cables' : List Cable) × (forwarding' : List ℕ) × Answers limits f (Ok counts) nodes' cables' forwarding'
    × (take counts.nodes nodes' ≡ nodes) × (take counts.cables cables' ≡ cables)

-- with the widest limits, files give exactly the tables that keep the rules of a rack
abbrev pub FilesGiveRacks : Type 0
FilesGiveRacks =
    (limits : Limits) → limits.nodes ≡ 128 → limits.cables ≡ 256 → (nodes : List ℕ) (cables : List Cable)
    → ((f : List ℕ) → Gives limits f nodes cables → KeepsRules nodes cables)
    × (KeepsRules nodes cables → (f : List ℕ) × ((k : ℕ) → slice_index f k < 256) × Gives limits f nodes cables)
