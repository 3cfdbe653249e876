-- Which words name which task. Assumes nothing.
use Rattle.std.specs.Prelude.{◌≡◌, ℕ, ◌⊎◌, Bool, true, false, List, [], ◌∷◌, None, Some, Option, codes}
use denote.Ref.{Bor}
use Rattle.workbench.specs.declared.arguments.BuildTask.{BuildTask}
use Rattle.workbench.specs.declared.arguments.Task.{Task}
use Rattle.workbench.specs.declared.arguments.Task.TheVariants.{Build, Check, Dry}
use Rattle.workbench.specs.declared.layout.Layout.{Layout}
use Rattle.workbench.specs.declared.layout.Layout.TheVariants.{Method, TwoHop, OneLane}
use Rattle.workbench.specs.Words.{Writes}

-- a build for a rack, without options
abbrev pub plainly : Bor (List ℕ) → BuildTask
plainly rack = record { rack = rack; lanes = None; two_hop = false; root = None; out = None }

-- how the tables of a task are laid out: by the two-hop map where it is asked for, else with lane 0 alone where a root is named, else by the builder
abbrev pub layout_by : Bool → Option ℕ → Layout
layout_by true root = TwoHop
layout_by false (Some n) = OneLane
layout_by false None = Method

abbrev pub layout_of : BuildTask → Layout
layout_of t = layout_by t.two_hop t.root

-- how many lanes its plan has: as many as are told; else one where one is all that is used, and eight elsewhere
abbrev pub lanes_by : Option ℕ → Layout → ℕ
lanes_by (Some n) layout = n
lanes_by None OneLane = 1
lanes_by None TwoHop = 8
lanes_by None Method = 8

abbrev pub lanes_of : BuildTask → ℕ
lanes_of t = lanes_by t.lanes (layout_of t)

-- the words are `--root SWITCH`; or there are none, and no root is named
abbrev pub NamesRoot : List (Bor (List ℕ)) → Option ℕ → Type 0
NamesRoot ws None = ws ≡ []
NamesRoot ws (Some n) = (option number : Bor (List ℕ)) × (ws ≡ option ∷ number ∷ []) × (option.now ≡ codes "--root") × Writes 16 number.now n

-- the words are `check RACK PLAN`, and behind them a root may be named
abbrev pub NamesCheck : List (Bor (List ℕ)) → Bor (List ℕ) → Bor (List ℕ) → Option ℕ → Type 0
NamesCheck ws rack plan root = (verb : Bor (List ℕ)) × (rest : List (Bor (List ℕ))) × (ws ≡ verb ∷ rack ∷ plan ∷ rest) × (verb.now ≡ codes "check") × NamesRoot rest root

-- the words are `dry RACK PLAN`, and the depth is 1, or `dry RACK PLAN --depth D`; and behind them a root may be named
abbrev pub NamesDry : List (Bor (List ℕ)) → Bor (List ℕ) → Bor (List ℕ) → ℕ → Option ℕ → Type 0
NamesDry ws rack plan depth root =
    ((verb : Bor (List ℕ)) × (rest : List (Bor (List ℕ))) × (ws ≡ verb ∷ rack ∷ plan ∷ rest) × (verb.now ≡ codes "dry") × (depth ≡ 1) × NamesRoot rest root)
    ⊎ ((verb option number : Bor (List ℕ)) × (rest : List (Bor (List ℕ))) × (ws ≡ verb ∷ rack ∷ plan ∷ option ∷ number ∷ rest) × (verb.now ≡ codes "dry") × (option.now ≡ codes "--depth")
    × Writes 8 number.now depth × NamesRoot rest root)

-- a task with one thing changed: as many lanes, the two-hop map, a root, or a plan file there
abbrev pub with_lanes : BuildTask → ℕ → BuildTask
with_lanes t n = record { rack = t.rack; lanes = Some n; two_hop = t.two_hop; root = t.root; out = t.out }

abbrev pub with_two_hop : BuildTask → BuildTask
with_two_hop t = record { rack = t.rack; lanes = t.lanes; two_hop = true; root = t.root; out = t.out }

abbrev pub with_root : BuildTask → ℕ → BuildTask
with_root t n = record { rack = t.rack; lanes = t.lanes; two_hop = t.two_hop; root = Some n; out = t.out }

abbrev pub with_out : BuildTask → Bor (List ℕ) → BuildTask
with_out t path = record { rack = t.rack; lanes = t.lanes; two_hop = t.two_hop; root = t.root; out = Some path }

-- the words are options, one after another, that make task u of task t: `--two-hop`, `--lanes L`, `--root SWITCH` or `--out PLAN`; what comes later counts
abbrev pub Options : BuildTask → List (Bor (List ℕ)) → BuildTask → Type 0
Options t [] u = u ≡ t
Options t (option ∷ []) u = (option.now ≡ codes "--two-hop") × (u ≡ with_two_hop t)
Options t (option ∷ word ∷ rest) u =
    ((option.now ≡ codes "--two-hop") × Options (with_two_hop t) (word ∷ rest) u)
    ⊎ ((option.now ≡ codes "--lanes") × ((n : ℕ) × Writes 8 word.now n × Options (with_lanes t n) rest u))
    ⊎ ((option.now ≡ codes "--root") × ((n : ℕ) × Writes 16 word.now n × Options (with_root t n) rest u))
    ⊎ ((option.now ≡ codes "--out") × Options (with_out t word) rest u)

-- the words are `build RACK` and options
abbrev pub NamesBuild : List (Bor (List ℕ)) → BuildTask → Type 0
NamesBuild ws t = (verb rack : Bor (List ℕ)) × (rest : List (Bor (List ℕ))) × (ws ≡ verb ∷ rack ∷ rest) × (verb.now ≡ codes "build") × Options (plainly rack) rest t

-- the task that the words name
abbrev pub Names : List (Bor (List ℕ)) → Task → Type 0
Names ws (Build t) = NamesBuild ws t
Names ws (Check rack plan root) = NamesCheck ws rack plan root
Names ws (Dry rack plan depth root) = NamesDry ws rack plan depth root
