-- The words by which everything above sees a rack. Assumes nothing.
use Rattle.std.specs.Prelude.{◌≡◌, ℕ, ◌+◌, ◌-◌, ◌%◌, ◌<◌, cond, List, length, vec_items, ◌==◌}
use Rattle.rack.specs.declared.cable.Cable.{Cable}
use Rattle.rack.specs.declared.rack.Rack.{Rack}
use Rattle.rack.specs.declared.fault.RackFault.{RackFault}
use Rattle.rack.specs.declared.fault.RackFault.TheVariants.{Tables, Memory}
use Rattle.rack.specs.Network.{channels, tail_end, head_end, HostAt, SwitchAt, KeepsRules}

-- the node table of a rack: 1 a host, 2 a switch
abbrev pub nodes_of : Rack → List ℕ
nodes_of r = vec_items r.nodes

-- the cable table of a rack
abbrev pub cables_of : Rack → List Cable
cables_of r = vec_items r.cables

-- how many nodes there are
abbrev pub node_count : Rack → ℕ
node_count r = length (nodes_of r)

-- how many channels there are: numbers below that are channels
abbrev pub channel_count : Rack → ℕ
channel_count r = channels (cables_of r)

-- the node that channel c leaves
abbrev pub tail : Rack → ℕ → ℕ
tail r c = (tail_end (cables_of r) c).node.0

-- the port by which channel c leaves
abbrev pub tail_port : Rack → ℕ → ℕ
tail_port r c = (tail_end (cables_of r) c).port.0

-- the node that channel c enters
abbrev pub head : Rack → ℕ → ℕ
head r c = (head_end (cables_of r) c).node.0

-- the port by which channel c enters
abbrev pub head_port : Rack → ℕ → ℕ
head_port r c = (head_end (cables_of r) c).port.0

-- node v is a host, which sends and receives
abbrev pub Host : Rack → ℕ → Type 0
Host r v = HostAt (nodes_of r) v

-- node v is a switch, which forwards
abbrev pub Switch : Rack → ℕ → Type 0
Switch r v = SwitchAt (nodes_of r) v

-- channel c leaves node v
abbrev pub Leaving : Rack → ℕ → ℕ → Type 0
Leaving r v c = (c < channel_count r) × (tail r c ≡ v)

-- channel c leaves node v by port p
abbrev pub LeavingBy : Rack → ℕ → ℕ → ℕ → Type 0
LeavingBy r v p c = Leaving r v c × (tail_port r c ≡ p)

-- channel c enters node v
abbrev pub Entering : Rack → ℕ → ℕ → Type 0
Entering r v c = (c < channel_count r) × (head r c ≡ v)

-- channel c enters switch w
abbrev pub EntersSwitch : Rack → ℕ → ℕ → Type 0
EntersSwitch r c w = (c < channel_count r) × (head r c ≡ w) × Switch r w

-- the other channel of a channel's cable: 2k and 2k + 1 are each other's
abbrev pub back : ℕ → ℕ
back c = cond (c % 2 == 0) (c + 1) (c - 1)

-- why no rack was made of the tables: they break a rule, or they keep all and there was no memory
abbrev pub Refuses : List ℕ → List Cable → RackFault → Type 0
Refuses nodes cables Tables = KeepsRules nodes cables → ⊥
Refuses nodes cables Memory = KeepsRules nodes cables
