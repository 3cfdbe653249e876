-- What one more record describes, and its bounds, and what tables that show it hold. Assumes nothing.
use Rattle.std.proofs.Common.{◌≡◌, ℕ, ◌+◌, ◌≤◌, List, length, take, Some, None, Option, sym, ◌∙◌, subst, add-one, arith}
use Rattle.std.proofs.lemmas.List.{length_push}
use Rattle.reading.specs.declared.add.Counts.{Counts}
use Rattle.rack.specs.declared.cable.Cable.{Cable}
use Rattle.reading.specs.declared.limits.Limits.{Limits}
use Rattle.reading.specs.declared.record.Record.{Record}
use Rattle.reading.specs.declared.record.Record.TheVariants.{Node, Joins, Forwards}
use Rattle.reading.specs.Format.{said}
use Rattle.rack.specs.Network.{none, Lonely, Uncabled}
use Rattle.rack.specs.Kinds.{code}
use Rattle.reading.specs.Rules.{Described, Kept, asked, grown, described, Shown, Alone}
use Rattle.rack.proofs.ShownTables.{shows_front}

pub described_more : (f : List ℕ) (i : ℕ) → described f (i + 1) ≡ grown (described f i) (said f i)
described_more f i = rw add-one

-- there are at most 128 nodes, 256 cables and as many entries as records
abbrev pub Bounds : Described → ℕ → Type 0
Bounds net i = (length net.nodes ≤ 128) × (length net.cables ≤ 256) × (length net.entries ≤ i)

pub bounds_more : (limits : Limits) (net : Described) (i : ℕ) (r : Option Record) → Kept (asked limits net r) → Bounds net i → Bounds (grown net r) (i + 1)
bounds_more limits net i None kept b = absurd kept.0
bounds_more limits net i (Some (Node kind v)) kept b = (omega (arith, length_push net.nodes (code kind), kept.1.0, limits.few), b.1, omega (arith, b.2))
bounds_more limits net i (Some (Joins c)) kept b = (b.0, omega (arith, length_push net.cables c, kept.1.0, limits.few), omega (arith, b.2))
bounds_more limits net i (Some (Forwards e)) kept b = (b.0, b.1, omega (arith, length_push net.entries e, b.2))

module _ {net : Described} {counts : Counts} {nodes : List ℕ} {cables : List Cable} {forwarding : List ℕ} (s : Shown net counts nodes cables forwarding) (within : counts.cables ≤ length cables) where
  -- the first cables of the table are those described
  pub front : take counts.cables cables ≡ net.cables
  front = shows_front net.cables cables none counts.cables s.cable_count within s.cable

  -- a host is without a cable among them where it is in what is described
  pub lonely_alike : (v : ℕ) → (Lonely nodes (take counts.cables cables) v → Alone net v) × (Alone net v → Lonely nodes (take counts.cables cables) v)
  lonely_alike v = (
    λ h. (sym (s.node v) ∙ h.0, subst (λ l. Uncabled l v) front h.1),
    λ h. (s.node v ∙ h.0, subst (λ l. Uncabled l v) (sym front) h.1),
  )
