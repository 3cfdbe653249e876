-- What the records of a file that keep the rules describe. Assumes nothing.
use Rattle.std.proofs.Common.{◌≡◌, ℕ, zero, suc, ◌+◌, ◌*◌, ◌/◌, ◌<◌, ◌≤◌, ◌⊎◌, List, [], ◌∷◌, ◌++◌, length, get_or, take, IfOk, Some, None, Ok, Err, Option, Result, sym, refl, ap, ◌∙◌, subst, inl, inr, ⊎_elim, arith}
use Rattle.std.proofs.lemmas.List.{get_or_push, get_or_append_left, get_or_past, length_push, take-append-le}
use Rattle.std.proofs.lemmas.Bool.{cases_lt}
use Rattle.reading.specs.declared.add.Counts.{Counts}
use Rattle.rack.specs.declared.cable.Cable.{Cable}
use Rattle.rack.specs.declared.cable.End.{End}
use Rattle.reading.specs.declared.fault.FileFault.{FileFault}
use Rattle.reading.specs.declared.limits.Limits.{Limits}
use Rattle.reading.specs.declared.record.Entry.{Entry}
use Rattle.rack.specs.declared.kind.Kind.{Kind}
use Rattle.rack.specs.declared.kind.Kind.TheVariants.{Host, Switch}
use Rattle.reading.specs.declared.record.Record.{Record}
use Rattle.reading.specs.declared.record.Record.TheVariants.{Node, Joins, Forwards}
use Rattle.reading.specs.Format.{said}
use Rattle.rack.specs.Network.{none, channels, tail_end, JoinsPorts, FreeEnd, KnownKinds, AllJoin, Apart, KeepsRules}
use Rattle.rack.specs.Kinds.{code}
use Rattle.reading.specs.Rules.{Described, Kept, asked, grown, described, Fine, Shown, Names, nothing, Answers}
use Rattle.rack.proofs.Channels.{tail_even, tail_odd, none_leaves}
use Rattle.rack.proofs.ShownTables.{shows_front}
use Rattle.reading.proofs.OneMore.{Bounds, bounds_more, front}

-- each element of xs and y has P
pub each_push : {X : Type 0} (P : X → Type 0) (xs : List X) (y d : X) → ((k : ℕ) → k < length xs → P (get_or xs k d)) → P y → (k : ℕ) → k < length (xs ++ y ∷ []) → P (get_or (xs ++ y ∷ []) k d)
each_push P xs y d all here k h =
    let long = length_push xs y in
    ⊎_elim
    (λ (low : k < length xs). subst P (sym (get_or_append_left xs (y ∷ []) d k low)) (all k low))
    (λ (high : length xs ≤ k). let last : length xs ≡ k = omega arith in subst P (sym (get_or_push xs y d k last)) here)
    (cases_lt k (length xs))

-- the ends of the cables, with one cable more
module _ (cs : List Cable) (c : Cable) where
  abbrev more : List Cable
  more = cs ++ c ∷ []

  new_first : tail_end more (2 * length cs) ≡ c.first
  new_first = tail_even more (length cs) ∙ ap (λ (x : Cable). x.first) (get_or_push cs c none (length cs) refl)

  new_second : tail_end more (2 * length cs + 1) ≡ c.second
  new_second = tail_odd more (length cs) ∙ ap (λ (x : Cable). x.second) (get_or_push cs c none (length cs) refl)

  old : (b : ℕ) → b < 2 * length cs → tail_end more b ≡ tail_end cs b
  old b low = let within : b / 2 < length cs = omega arith in rw (get_or_append_left cs (c ∷ []) none (b / 2) within)

  -- an end is an old one, or the first or the second of the new cable
  abbrev Place : ℕ → Type 0
  Place b = (b < 2 * length cs) ⊎ ((b ≡ 2 * length cs) ⊎ (b ≡ 2 * length cs + 1))

  place : (b : ℕ) → b < channels more → Place b
  place b h =
      let long = length_push cs c in
      ⊎_elim
      (λ (low : b < 2 * length cs). inl low)
      (λ (high : 2 * length cs ≤ b).
      inr (⊎_elim
      (λ (at : b < 2 * length cs + 1). inl (omega arith))
      (λ (past : 2 * length cs + 1 ≤ b). inr (omega arith))
      (cases_lt b (2 * length cs + 1))))
      (cases_lt b (2 * length cs))

  clash : (b : ℕ) (e : End) → b < 2 * length cs → FreeEnd cs e → tail_end more b ≡ e → ⊥
  clash b e low free is = none_leaves cs e free b (low, sym (old b low) ∙ is)

  pub apart_push : Apart cs → (c.first ≡ c.second → ⊥) → FreeEnd cs c.first → FreeEnd cs c.second → Apart more
  apart_push apart two first second b d h = both (place b h.0) (place d h.1)
    where
      is_first : (x : ℕ) → x ≡ 2 * length cs → tail_end more x ≡ c.first
      is_first x e = ap (tail_end more) e ∙ new_first

      is_second : (x : ℕ) → x ≡ 2 * length cs + 1 → tail_end more x ≡ c.second
      is_second x e = ap (tail_end more) e ∙ new_second

      both : Place b → Place d → b ≡ d
      both (inl x) (inl y) = apart b d (x, y, sym (old b x) ∙ h.2 ∙ old d y)
      both (inl x) (inr (inl y)) = absurd (clash b c.first x first (h.2 ∙ is_first d y))
      both (inl x) (inr (inr y)) = absurd (clash b c.second x second (h.2 ∙ is_second d y))
      both (inr (inl x)) (inl y) = absurd (clash d c.first y first (sym h.2 ∙ is_first b x))
      both (inr (inl x)) (inr (inl y)) = x ∙ sym y
      both (inr (inl x)) (inr (inr y)) = absurd (two (sym (is_first b x) ∙ h.2 ∙ is_second d y))
      both (inr (inr x)) (inl y) = absurd (clash d c.second y second (sym h.2 ∙ is_second b x))
      both (inr (inr x)) (inr (inl y)) = absurd (two (sym (is_first d y) ∙ sym h.2 ∙ is_second b x))
      both (inr (inr x)) (inr (inr y)) = x ∙ sym y

-- no pair is given twice
abbrev pub Singles : List Entry → Type 0
Singles es = (j k : ℕ) → j < k → k < length es → (w v : ℕ) → Names (get_or es j nothing) w v → Names (get_or es k nothing) w v → ⊥

singles_push : (es : List Entry) (e : Entry) → Singles es → ((k : ℕ) → k < length es → Names (get_or es k nothing) e.switch.0 e.host.0 → ⊥) → Singles (es ++ e ∷ [])
singles_push es e old fresh j k low high w v a b =
    let long = length_push es e in
    let a' : Names (get_or es j nothing) w v = subst (λ d. Names d w v) (get_or_append_left es (e ∷ []) nothing j (omega arith)) a in
    ⊎_elim
    (λ (in' : k < length es). old j k low in' w v a' (subst (λ d. Names d w v) (get_or_append_left es (e ∷ []) nothing k in') b))
    (λ (out : length es ≤ k).
    let last : length es ≡ k = omega arith in
    let b' : Names e w v = subst (λ d. Names d w v) (get_or_push es e nothing k last) b in
    fresh j (omega arith) (a'.0 ∙ sym b'.0, a'.1 ∙ sym b'.1))
    (cases_lt k (length es))

-- what holds after each record that keeps the rules
pub record Sound (net : Described) : Type 0 where
  pub kinds : KnownKinds net.nodes
  pub joined : AllJoin net.nodes net.cables
  pub apart : Apart net.cables
  pub singles : Singles net.entries
  pub peopled : length net.nodes ≡ 0 → length net.entries ≡ 0

known : (kind : Kind) → (1 ≤ code kind) × (code kind ≤ 2)
known Host = (omega arith, omega arith)
known Switch = (omega arith, omega arith)

sound_more : (limits : Limits) (net : Described) (r : Option Record) → Kept (asked limits net r) → Sound net → Sound (grown net r)
sound_more limits net None kept h = h
sound_more limits net (Some (Node kind v)) kept h = record {
  kinds = each_push (λ x. (1 ≤ x) × (x ≤ 2)) net.nodes (code kind) 0 h.kinds (known kind);
  joined = λ k low. absurd (omega (arith, kept.0.0));
  apart = h.apart;
  singles = h.singles;
  peopled = λ empty. absurd (omega (arith, length_push net.nodes (code kind)));
}
sound_more limits net (Some (Joins c)) kept h = record {
  kinds = h.kinds;
  joined = each_push (JoinsPorts net.nodes) net.cables c none h.joined kept.1.1.0;
  apart = apart_push net.cables c h.apart (λ e. kept.1.1.0.2 (ap (λ (x : End). x.node.0) e)) kept.1.1.1.0.0 kept.1.1.1.0.1;
  singles = h.singles;
  peopled = h.peopled;
}
sound_more limits net (Some (Forwards e)) kept h = record {
  kinds = h.kinds;
  joined = h.joined;
  apart = h.apart;
  singles = singles_push net.entries e h.singles kept.0.3;
  peopled = λ empty. absurd (omega (arith, get_or_past net.nodes e.host.0 0 (omega arith), kept.0.1));
}

pub sound : (limits : Limits) (f : List ℕ) (i : ℕ) → Fine limits f i → Sound (described f i)
sound limits f zero fine = record {
  kinds = λ k h. absurd (omega arith);
  joined = λ k h. absurd (omega arith);
  apart = λ b c h. absurd (omega (arith, h.0));
  singles = λ j k low high. absurd (omega arith);
  peopled = λ _. refl;
}
sound limits f (suc i) fine = sound_more limits (described f i) (said f i) (fine i (omega arith)) (sound limits f i (λ j l. fine j (omega arith)))

bounds : (limits : Limits) (f : List ℕ) (i : ℕ) → Fine limits f i → Bounds (described f i) i
bounds limits f zero fine = (omega arith, omega arith, omega arith)
bounds limits f (suc i) fine =
    let b = bounds_more limits (described f i) i (said f i) (fine i (omega arith)) (bounds limits f i (λ j l. fine j (omega arith))) in
    (b.0, b.1, omega (arith, b.2))

-- no two of their cables share a port
pub ports_apart : (limits : Limits) (f : List ℕ) (i : ℕ) → Fine limits f i → Apart (described f i).cables
ports_apart limits f i fine = (sound limits f i fine).apart

-- a table that shows xs, none of which is the blank, is at least as long
shows_within : {X : Type 0} (xs table : List X) (d : X) → ((k : ℕ) → k < length xs → get_or xs k d ≡ d → ⊥) → ((k : ℕ) → get_or table k d ≡ get_or xs k d) → length xs ≤ length table
shows_within xs table d some shows =
    ⊎_elim
    (λ (short : length table < length xs). absurd (some (length table) short (sym (shows (length table)) ∙ get_or_past table (length table) d (omega arith))))
    (λ h. h)
    (cases_lt (length table) (length xs))

-- an accepted file's tables begin with what its records describe
abbrev pub Begins : Counts → List ℕ → List Cable → Described → Type 0
Begins counts nodes cables net =
    (counts.nodes ≤ length nodes) × (counts.cables ≤ length cables) × (take counts.nodes nodes ≡ net.nodes) × (take counts.cables cables ≡ net.cables)

begins : (net : Described) (counts : Counts) (nodes : List ℕ) (cables : List Cable) (forwarding : List ℕ) → Sound net → Shown net counts nodes cables forwarding → Begins counts nodes cables net
begins net counts nodes cables forwarding good s =
    let n : length net.nodes ≤ length nodes = shows_within net.nodes nodes 0 (λ k h e. omega (arith, good.kinds k h)) s.node in
    let m : length net.cables ≤ length cables = shows_within net.cables cables none (λ k h e. omega (arith, (good.joined k h).0.0, ap (λ (x : Cable). x.first.port.0) e)) s.cable in (
      omega (arith, s.node_count),
      omega (arith, s.cable_count),
      shows_front net.nodes nodes 0 counts.nodes s.node_count (omega (arith, s.node_count)) s.node,
      front s (omega (arith, s.cable_count)),
    )

module _ (limits : Limits) (f : List ℕ) (counts : Counts) (nodes : List ℕ) (cables : List Cable) (forwarding : List ℕ) where
  pub accepted_begins : Answers limits f (Ok counts) nodes cables forwarding → Begins counts nodes cables (described f (length f / 8))
  accepted_begins h = begins (described f (length f / 8)) counts nodes cables forwarding (sound limits f (length f / 8) h.1) h.3

  described_keeps : Answers limits f (Ok counts) nodes cables forwarding → KeepsRules (described f (length f / 8)).nodes (described f (length f / 8)).cables
  described_keeps h =
      let good = sound limits f (length f / 8) h.1 in
      let b = bounds limits f (length f / 8) h.1 in
      ((b.0, b.1), good.kinds, good.joined, good.apart, h.2)

-- the tables of an accepted file, as far as they are used, keep the rules of a rack
pub accepted_keeps :
    (limits : Limits) (f : List ℕ) (counts : Counts) (nodes : List ℕ) (cables : List Cable) (forwarding : List ℕ) →
    Answers limits f (Ok counts) nodes cables forwarding → KeepsRules (take counts.nodes nodes) (take counts.cables cables)
accepted_keeps limits f counts nodes cables forwarding h =
    let at = accepted_begins limits f counts nodes cables forwarding h in
    rw (at.2, at.3) (described_keeps limits f counts nodes cables forwarding h)

-- and so do tables with more behind
pub result_keeps :
    (limits : Limits) (f : List ℕ) (r : Result Counts FileFault) (nodes nodes' : List ℕ) (cables cables' : List Cable) (forwarding : List ℕ) →
    Answers limits f r nodes cables forwarding → IfOk r (λ counts. KeepsRules (take counts.nodes (nodes ++ nodes')) (take counts.cables (cables ++ cables')))
result_keeps limits f (Err fault) nodes nodes' cables cables' forwarding h = tt
result_keeps limits f (Ok counts) nodes nodes' cables cables' forwarding h =
    let at = accepted_begins limits f counts nodes cables forwarding h in
    rw (take-append-le counts.nodes nodes nodes' at.0, take-append-le counts.cables cables cables' at.1) (accepted_keeps limits f counts nodes cables forwarding h)

-- the counts lie within the tables
pub result_few :
    (limits : Limits) (f : List ℕ) (r : Result Counts FileFault) (nodes : List ℕ) (cables : List Cable) (forwarding : List ℕ) → length nodes ≡ 128 → length cables ≡ 256 →
    Answers limits f r nodes cables forwarding → IfOk r (λ counts. (counts.nodes ≤ 128) × (counts.cables ≤ 256))
result_few limits f (Err fault) nodes cables forwarding n m h = tt
result_few limits f (Ok counts) nodes cables forwarding n m h =
    let at = accepted_begins limits f counts nodes cables forwarding h in
    (omega (arith, at.0), omega (arith, at.1))
