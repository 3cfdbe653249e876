-- How the tiers of the nodes are read from a distance table, one after the other. Assumes nothing.
use Rattle.std.proofs.Common.{◌≡◌, ℕ, ◌+◌, ◌*◌, ◌<◌, ◌≤◌, ◌++◌, [], ◌∷◌, List, length, get_or, slice_index, sym, ap, ◌∙◌, subst, ⊎_elim, arith}
use Rattle.std.proofs.lemmas.Bool.{cases_eq, cases_lt}
use Rattle.std.proofs.lemmas.List.{length_push, get_or_append_left, get_or_push, get_or_past}
use Rattle.std.proofs.lemmas.Nat.{mul-add-lt}
use Rattle.std.proofs.lemmas.Grind.{get_or_default_zero}
use Rattle.rack.specs.declared.rack.Rack.{Rack}
use Rattle.rack.specs.Racks.{node_count}
use Rattle.routing.specs.Ways.{Fewest, far}
use Rattle.up_down.specs.Ways.{PlainWay}
use Rattle.up_down.specs.Sources.{tier_of}
use Rattle.up_down.specs.Tables.{TiersIn}
use Rattle.up_down.proofs.Plain.{fewest_plain, none_plain}

module _ (n root : ℕ) (table : List ℕ) where
  -- the list has the distances of the nodes below the limit, and each of them has a way
  pub record Tiering (limit : ℕ) (tiers : List ℕ) : Type 0 where
    pub within : limit ≤ n
    pub long : length tiers ≡ limit
    pub same : (w : ℕ) → w < limit → tier_of tiers w ≡ far n root table w
    pub small : (w : ℕ) → w < limit → far n root table w < 255

  -- what was read at the place of a node is its distance
  pub read : (w place x : ℕ) → w < n → root < n → n * n ≤ length table → place ≡ n * w + root → x ≡ get_or table place x → x ≡ far n root table w
  read w place x l m room is e = e ∙ get_or_default_zero table place x (omega (arith, mul-add-lt w n root n l m)) ∙ ap (slice_index table) is

  -- the next one is added
  pub tiering_push : (limit t : ℕ) (tiers : List ℕ) → limit < n → t ≡ far n root table limit → t < 255 → Tiering limit tiers → Tiering (limit + 1) (tiers ++ t ∷ [])
  tiering_push limit t tiers less is small so =
      record {
        within = omega arith;
        long = omega (arith, length_push tiers t, so.long);
        same = λ w l.
            ⊎_elim
            (λ (e : w ≡ limit). get_or_push tiers t 0 w (sym (e ∙ sym so.long)) ∙ is ∙ sym (ap (far n root table) e))
            (λ (ne : w ≡ limit → ⊥). get_or_append_left tiers (t ∷ []) 0 w (omega (arith, so.long)) ∙ so.same w (omega arith))
            (cases_eq w limit);
        small = λ w l.
            ⊎_elim
            (λ (e : w ≡ limit). omega (arith, is, ap (far n root table) e))
            (λ (ne : w ≡ limit → ⊥). so.small w (omega arith))
            (cases_eq w limit);
      }

module _ (r : Rack) (root : ℕ) (table : List ℕ) (column : (w : ℕ) → w < node_count r → Fewest r root w (far (node_count r) root table w)) where
  -- of all nodes they are the tiers
  pub tiering_all : (limit : ℕ) (tiers : List ℕ) → node_count r ≤ limit → Tiering (node_count r) root table limit tiers → TiersIn r root tiers
  tiering_all limit tiers all so =
      record {
        all = omega (arith, so.long, so.within);
        exact = λ w l.
            let d = far (node_count r) root table w in
            subst (λ t. PlainWay r root t w × ((k : ℕ) → PlainWay r root k w → t ≤ k)) (sym (so.same w (omega arith))) (fewest_plain r root w d (column w l) (so.small w (omega arith)));
        small = λ w.
            ⊎_elim
            (λ (l : w < limit). omega (arith, so.same w l, so.small w l))
            (λ (l : limit ≤ w). omega (arith, get_or_past tiers w 0 (omega (arith, so.long))))
            (cases_lt w limit);
      }

  -- from a node without one no way leads to the root, and from each before it one does
  pub unreached :
      (limit : ℕ) (tiers : List ℕ) → limit < node_count r → far (node_count r) root table limit ≡ 255 → Tiering (node_count r) root table limit tiers
      → ((k : ℕ) → PlainWay r root k limit → ⊥) × ((w : ℕ) → w < limit → (k : ℕ) × PlainWay r root k w)
  unreached limit tiers less none so = (
    none_plain r root limit (far (node_count r) root table limit) (column limit less) none,
    λ w l. let d = far (node_count r) root table w in (d, (fewest_plain r root w d (column w (omega arith)) (so.small w l)).0),
  )
