-- Ports, cables and channels, over a list of nodes and a list of cables. Assumes nothing.
use Rattle.std.specs.Prelude.{◌≡◌, ℕ, ◌*◌, ◌/◌, ◌%◌, ◌<◌, ◌≤◌, cond, ◌⊎◌, List, length, get_or, ◌==◌, ◌≢◌, slice_index, slice_index_or}
use Rattle.rack.specs.declared.cable.Cable.{Cable}
use Rattle.rack.specs.declared.cable.End.{End}

-- port p of node v
abbrev pub port_of : ℕ → ℕ → End
port_of v p = record { node = record { 0 = v }; port = record { 0 = p } }

-- what a place of the cable table holds where no cable is
abbrev pub none : Cable
none = record { first = port_of 0 0; second = port_of 0 0 }

-- node v is a host
abbrev pub HostAt : List ℕ → ℕ → Type 0
HostAt nodes v = slice_index nodes v ≡ 1

-- node v is a switch
abbrev pub SwitchAt : List ℕ → ℕ → Type 0
SwitchAt nodes v = slice_index nodes v ≡ 2

-- how many ports a node has: a switch, 2, has 36, a host, 1, has 1, what is no node has none
abbrev pub ports : ℕ → ℕ
ports kind = cond (kind == 2) 36 (cond (kind == 1) 1 0)

-- the node has the port
abbrev pub Port : List ℕ → End → Type 0
Port nodes e = (1 ≤ e.port.0) × (e.port.0 ≤ ports (slice_index nodes e.node.0))

-- a cable joins ports of two different nodes, which are not both hosts
abbrev pub JoinsPorts : List ℕ → Cable → Type 0
JoinsPorts nodes c =
    Port nodes c.first × Port nodes c.second × (c.first.node.0 ≢ c.second.node.0)
    × (HostAt nodes c.first.node.0 → HostAt nodes c.second.node.0 → ⊥)

-- the cable ends there
abbrev pub EndsAt : Cable → End → Type 0
EndsAt c e = (c.first ≡ e) ⊎ (c.second ≡ e)

-- no cable ends there
abbrev pub FreeEnd : List Cable → End → Type 0
FreeEnd cables e = (k : ℕ) → k < length cables → EndsAt (slice_index_or cables k none) e → ⊥

-- how many channels there are: two for each cable
abbrev pub channels : List Cable → ℕ
channels cables = 2 * length cables

-- the end that channel c leaves: cable k has channel 2k from its first end to its second, and 2k + 1 back
abbrev pub tail_end : List Cable → ℕ → End
tail_end cables c = cond (c % 2 == 0) (get_or cables (c / 2) none).first (get_or cables (c / 2) none).second

-- the end that channel c enters, which is the other end of its cable
abbrev pub head_end : List Cable → ℕ → End
head_end cables c = cond (c % 2 == 0) (get_or cables (c / 2) none).second (get_or cables (c / 2) none).first

-- a port takes one cable: no two channels leave by one port
abbrev pub Apart : List Cable → Type 0
Apart cables = (b c : ℕ) → (b < channels cables) × (c < channels cables) × (tail_end cables b ≡ tail_end cables c) → b ≡ c

-- no cable ends at node v
abbrev pub Uncabled : List Cable → ℕ → Type 0
Uncabled cables v =
    (k : ℕ) → k < length cables → ((get_or cables k none).first.node.0 ≢ v) × ((get_or cables k none).second.node.0 ≢ v)

-- node v is a host that no cable ends at
abbrev pub Lonely : List ℕ → List Cable → ℕ → Type 0
Lonely nodes cables v = HostAt nodes v × Uncabled cables v

-- there are at most 128 nodes and 256 cables
abbrev pub Few : List ℕ → List Cable → Type 0
Few nodes cables = (length nodes ≤ 128) × (length cables ≤ 256)

-- each node is a host, 1, or a switch, 2
abbrev pub KnownKinds : List ℕ → Type 0
KnownKinds nodes = (v : ℕ) → v < length nodes → (1 ≤ slice_index nodes v) × (slice_index nodes v ≤ 2)

-- each cable joins ports
abbrev pub AllJoin : List ℕ → List Cable → Type 0
AllJoin nodes cables = (k : ℕ) → k < length cables → JoinsPorts nodes (slice_index_or cables k none)

-- each host has a cable
abbrev pub NoneLonely : List ℕ → List Cable → Type 0
NoneLonely nodes cables = (v : ℕ) → Lonely nodes cables v → ⊥

-- the rules of a rack
abbrev pub KeepsRules : List ℕ → List Cable → Type 0
KeepsRules nodes cables = Few nodes cables × KnownKinds nodes × AllJoin nodes cables × Apart cables × NoneLonely nodes cables

-- channel c leaves by that port
abbrev pub Leaves : List Cable → End → ℕ → Type 0
Leaves cables e c = (c < channels cables) × (tail_end cables c ≡ e)
