-- How the table is filled, a host's column at a time. Assumes nothing.
use Rattle.std.proofs.Common.{◌≡◌, ℕ, ◌+◌, ◌-◌, ◌*◌, ◌<◌, ◌≤◌, List, length, get_or, drop, sym, refl, ap, ◌∙◌, subst, ⊎_elim, arith}
use Rattle.std.proofs.lemmas.List.{ext_get_or, length-drop, get_or-drop}
use Rattle.std.proofs.lemmas.Bool.{cases_eq}
use Rattle.rack.specs.declared.rack.Rack.{Rack}
use Rattle.rack.specs.Racks.{node_count, Host}
use Rattle.routing.specs.Ways.{Fewest, Distances, far, Beside}
use Rattle.routing.proofs.Columns.{pair_below, beside_far}

-- the columns below host h are filled, and the others hold 255; what stands behind the columns is as it was
pub record Filling (r : Rack) (h : ℕ) (old t : List ℕ) : Type 0 where
  pub column : (v : ℕ) → v < h → Host r v → (w : ℕ) → w < node_count r → Fewest r v w (far (node_count r) v t w)
  pub blank : (v : ℕ) → v < node_count r → (v < h → Host r v → ⊥) → (w : ℕ) → w < node_count r → far (node_count r) v t w ≡ 255
  pub beyond : (k : ℕ) → node_count r * node_count r ≤ k → get_or t k 0 ≡ get_or old k 0

pub filling_start : (r : Rack) (t : List ℕ) → ((k : ℕ) → k < node_count r * node_count r → get_or t k 0 ≡ 255) → Filling r 0 t t
filling_start r t all =
    record {
      column = λ v h. absurd (omega arith);
      blank = λ v l _ w h. all (node_count r * w + v) (pair_below (node_count r) w v h l);
      beyond = λ k h. refl;
    }

-- h is no host
pub filling_skip : (r : Rack) (h : ℕ) (old t : List ℕ) → (Host r h → ⊥) → Filling r h old t → Filling r (h + 1) old t
filling_skip r h old t off p =
    record {
      column = λ v l host w m.
          ⊎_elim
          (λ (e : v ≡ h). absurd (off (subst (Host r) e host)))
          (λ (ne : v ≡ h → ⊥). p.column v (omega arith) host w m)
          (cases_eq v h);
      blank = λ v l no' w m. p.blank v l (λ below host. no' (omega arith) host) w m;
      beyond = p.beyond;
    }

-- the column of host h was filled
module _ (r : Rack) (h : ℕ) (old t new : List ℕ) (host : Host r h) (l : h < node_count r) (filled : (w : ℕ) → w < node_count r → Fewest r h w (far (node_count r) h new w)) (beside : Beside (node_count r) h t new) (p : Filling r h old t) where
  other_column : (v w : ℕ) → v < node_count r → (v ≡ h → ⊥) → far (node_count r) v new w ≡ far (node_count r) v t w
  other_column v w m ne = beside_far (node_count r) h v w t new l m ne beside

  more_column : (v : ℕ) → v < h + 1 → Host r v → (w : ℕ) → w < node_count r → Fewest r v w (far (node_count r) v new w)
  more_column v m is w b =
      ⊎_elim
      (λ (e : v ≡ h). subst (λ a. Fewest r a w (far (node_count r) a new w)) (sym e) (filled w b))
      (λ (ne : v ≡ h → ⊥). subst (Fewest r v w) (sym (other_column v w (omega arith) ne)) (p.column v (omega arith) is w b))
      (cases_eq v h)

  more_blank : (v : ℕ) → v < node_count r → (v < h + 1 → Host r v → ⊥) → (w : ℕ) → w < node_count r → far (node_count r) v new w ≡ 255
  more_blank v m no' w b =
      let ne : v ≡ h → ⊥ = λ e. no' (omega arith) (subst (Host r) (sym e) host) in
      other_column v w m ne ∙ p.blank v m (λ below. no' (omega arith)) w b

  pub filling_host : Filling r (h + 1) old new
  filling_host = record {
    column = more_column;
    blank = more_blank;
    beyond = λ k b. beside k (λ w m e. omega (arith, pair_below (node_count r) w h m l)) ∙ p.beyond k b;
  }

pub filling_end : (r : Rack) (h : ℕ) (old t : List ℕ) → node_count r ≤ h → Filling r h old t → Distances r t
filling_end r h old t all p =
    record {
      host = λ w v m l is. p.column v (omega arith) is w m;
      other = λ w v m l no'. p.blank v l (λ _. no') w m;
    }

-- two tables that are the same from a place on
pub same_beyond : (m : ℕ) (a b : List ℕ) → length a ≡ length b → ((k : ℕ) → m ≤ k → get_or a k 0 ≡ get_or b k 0) → drop m a ≡ drop m b
same_beyond m a b long same =
    ext_get_or 0 (drop m a) (drop m b)
    (length-drop m a ∙ ap (λ x. x - m) long ∙ sym (length-drop m b))
    (λ i h. get_or-drop m a i 0 ∙ same (m + i) (omega arith) ∙ sym (get_or-drop m b i 0))
