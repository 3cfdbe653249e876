-- What a rack file tells. Assumes nothing.
use Rattle.std.specs.Prelude.{◌≡◌, ℕ, ◌⊎◌, List, None, Err, Option}
use Rattle.rack.specs.declared.cable.Cable.{Cable}
use Rattle.rack.specs.declared.rack.Rack.{Rack}
use Rattle.reading.specs.declared.fault.FileFault.{FileFault}
use Rattle.reading.specs.declared.limits.Limits.{Limits}
use Rattle.reading.specs.Rules.{Answers}
use Rattle.routing.specs.Sources.{stored_route}
use Rattle.report.specs.declared.refusal.Refusal.{Refusal}
use Rattle.report.specs.declared.refusal.Refusal.TheVariants.{File}
use Rattle.report.specs.Refusals.{told}
use Rattle.report.specs.Reports.{LetsIn, Reads, DownhillRouted, Forwards}
use Rattle.workbench.specs.declared.rack_file.RackFile.{RackFile}

-- read as stored, the table answers as the routing
abbrev pub AnswersAs : Rack → List ℕ → (ℕ → ℕ → Option ℕ) → Type 0
AnswersAs r table route = (c v : ℕ) → stored_route r table c v ≡ route c v

-- it answers as the downhill source over the true distances
abbrev pub AnswersDownhill : Rack → List ℕ → Type 0
AnswersDownhill r table = (route : ℕ → ℕ → Option ℕ) × DownhillRouted r route × AnswersAs r table route

-- as many nodes and cables are let in as can be; the rack is that of the file, and its table answers as the file's forwarding entries if there are any, else downhill
pub record IsOf (file : List ℕ) (f : RackFile) : Type 0 where
  pub entries : ℕ
  pub forwarding : List ℕ
  pub route : ℕ → ℕ → Option ℕ
  pub reads : Reads 128 256 file f.rack entries forwarding
  pub forwards : Forwards f.rack entries forwarding route
  pub answers : AnswersAs f.rack f.forwarding.items route

-- why nothing is read: the first fault of the file; or there is no memory
abbrev pub Unread : List ℕ → Refusal → Type 0
Unread file g =
    (told g ≡ None)
    ⊎ ((fault : FileFault) × (limits : Limits) × (nodes : List ℕ) × (cables : List Cable) × (forwarding : List ℕ) × (g ≡ File fault) × LetsIn 128 256 limits
    × Answers limits file (Err fault) nodes cables forwarding)

-- where packets go if no root is named: by the table
abbrev pub file_route : RackFile → ℕ → ℕ → Option ℕ
file_route f = stored_route f.rack f.forwarding.items
