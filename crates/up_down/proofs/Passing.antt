-- The rows of a table, filled node by node in their order. Assumes nothing.
use Rattle.std.proofs.Common.{◌≡◌, ℕ, ◌+◌, ◌-◌, ◌*◌, ◌/◌, ◌%◌, ◌<◌, ◌≤◌, Bool, true, false, not, ◌⊎◌, sym, refl, ap, ◌∙◌, subst, inl, inr, ⊎_elim, arith}
use Rattle.std.proofs.lemmas.Bool.{cases_Bool, cases_eq, true≢false}
use Rattle.std.proofs.lemmas.Nat.{div-mul-add, mod-mul-add, div-add-mod', mod_below}
use Rattle.rack.specs.declared.rack.Rack.{Rack}
use Rattle.rack.specs.Racks.{node_count, head, tail, Leaving}
use Rattle.rack.proofs.Facts.{head_below}
use Rattle.up_down.specs.declared.source.UpDown.{UpDown}
use Rattle.up_down.specs.Ways.{up}
use Rattle.up_down.specs.Sources.{tier_of}
use Rattle.up_down.specs.Tables.{order, RowIs, Ready, Same, RowFilled}
use Rattle.up_down.proofs.Climbing.{up_before, down_behind}
use Rattle.up_down.proofs.Filling.{row_kept}

-- the place of a node tells its number and its tier
pub told_by : (r : Rack) (tier : ℕ → ℕ) (w p : ℕ) → w < node_count r → order r tier w ≡ p → (w ≡ p % node_count r) × (tier w ≡ p / node_count r)
told_by r tier w p low e = (
  sym (mod-mul-add (tier w) (node_count r) w low) ∙ ap (λ k. k % node_count r) e,
  sym (div-mul-add (tier w) (node_count r) w low) ∙ ap (λ k. k / node_count r) e,
)

-- and is told by them
pub place_of : (r : Rack) (tier : ℕ → ℕ) (w p : ℕ) → w ≡ p % node_count r → tier w ≡ p / node_count r → order r tier w ≡ p
place_of r tier w p number above = (λ i. above i * node_count r + number i) ∙ div-add-mod' p (node_count r)

-- in one table of s the rows are filled whose place, by the tiers of old, passes
abbrev pub Rows : UpDown → UpDown → Bool → (ℕ → Type 0) → Type 0
Rows old s down P = (w : ℕ) → w < node_count old.rack.now → P (order old.rack.now (tier_of old.tiers.items) w) → RowIs s down w

-- what is so of a place and of the later ones is so from it on
pub from_on : (q k : ℕ) → 0 < q → q - 1 ≤ k → (k ≡ q - 1) ⊎ (q ≤ k)
from_on q k some over = ⊎_elim (λ (e : k ≡ q - 1). inl e) (λ (ne : k ≡ q - 1 → ⊥). inr (omega (arith, ne))) (cases_eq k (q - 1))

-- and of the earlier ones, up to it
pub up_to : (p k : ℕ) → k < p + 1 → (k ≡ p) ⊎ (k < p)
up_to p k under = ⊎_elim (λ (e : k ≡ p). inl e) (λ (ne : k ≡ p → ⊥). inr (omega (arith, ne))) (cases_eq k p)

module _ (old s : UpDown) (same : Same old s) where
  abbrev r : Rack
  r = old.rack.now

  abbrev tier : ℕ → ℕ
  tier = tier_of old.tiers.items

  -- a place p, of m nodes, and the tier t of the node that it tells
  module _ (m p t : ℕ) (count : m ≡ node_count r) (is : t ≡ tier_of s.tiers.items (p % m)) where
    pub at_place : t ≡ p / m → order r tier (p % m) ≡ p
    at_place above = place_of r tier (p % m) p (λ i. p % count i) ((λ i. tier_of (sym same.tiers i) (p % m)) ∙ sym is ∙ above ∙ (λ i. p / count i))

    pub no_place : (t ≡ p / m → ⊥) → (w : ℕ) → w < node_count r → order r tier w ≡ p → ⊥
    no_place other w low e =
        let by = told_by r tier w p low e in
        other (is ∙ (λ i. tier_of (same.tiers i) (p % count i)) ∙ ap tier (sym by.0) ∙ by.1 ∙ (λ i. p / sym count i))

    pub node_below : p < m * 255 → p % m < node_count r
    node_below low = let below = mod_below p m (omega (arith, low)) in omega (arith, below, count)

  -- no node has the place
  pub rows_skip : (down : Bool) (P Q : ℕ → Type 0) (p : ℕ) → ((k : ℕ) → Q k → (k ≡ p) ⊎ P k) → ((w : ℕ) → w < node_count r → order r tier w ≡ p → ⊥) → Rows old s down P → Rows old s down Q
  rows_skip down P Q p more none rows w low q =
      ⊎_elim
      (λ (e : order r tier w ≡ p). absurd (none w low e))
      (λ (passes : P (order r tier w)). rows w low passes)
      (more (order r tier w) q)

  module _ (new : UpDown) where
    -- the row of another table or another node is as it was
    kept : (down d : Bool) (w x : ℕ) → RowFilled down w s new → x < node_count r → ((d ≡ down) × (x ≡ w) → ⊥) → RowIs s d x → RowIs new d x
    kept down d w x filled low off row =
        row_kept s new d x filled.same (λ v inside. filled.others d x v (rw (same.rack) low) inside off) row

    -- the row of the node with the place is filled
    pub rows_more : (down : Bool) (P Q : ℕ → Type 0) (w : ℕ) → w < node_count r → ((k : ℕ) → Q k → (k ≡ order r tier w) ⊎ P k) → RowFilled down w s new → Rows old s down P → Rows old new down Q
    rows_more down P Q w low more filled rows x inside q =
        ⊎_elim
        (λ (e : x ≡ w). subst (RowIs new down) (sym e) filled.row)
        (λ (ne : x ≡ w → ⊥).
        ⊎_elim
        (λ (e : order r tier x ≡ order r tier w). absurd (ne ((told_by r tier x (order r tier w) inside e).0 ∙ sym (told_by r tier w (order r tier w) low refl).0)))
        (λ (passes : P (order r tier x)). kept down down w x filled inside (λ own. ne own.1) (rows x inside passes))
        (more (order r tier x) q))
        (cases_eq x w)

    -- the rows of the other table are as they were
    pub rows_other : (P : ℕ → Type 0) (w : ℕ) → RowFilled false w s new → Rows old s true P → Rows old new true P
    rows_other P w filled rows x inside passes = kept false true w x filled inside (λ own. true≢false own.0) (rows x inside passes)

  -- a way that only goes down goes on at a later place
  pub ready_falling : (w : ℕ) → Rows old s true (λ k. order r tier w < k) → Ready s true w
  ready_falling w rows d leaves allowed =
      let leaves' : Leaving r w d = rw (same.rack) at leaves in
      let falls : up r tier d ≡ false = rw (same.rack, same.tiers) at allowed in
      let behind = down_behind r tier d leaves'.0 falls in
      let at : order r tier (tail r d) ≡ order r tier w = ap (order r tier) leaves'.1 in
      let row : RowIs s true (head r d) = rows (head r d) (head_below r d leaves'.0) (omega (arith, behind, at)) in
      let to : head r d ≡ head s.rack.now d = λ i. head (sym same.rack i) d in
      subst (λ u. RowIs s (not u) (head s.rack.now d)) (sym allowed) (subst (RowIs s true) to row)

  -- a way goes up to an earlier place, or down
  pub ready_rising : (w : ℕ) → Rows old s true (λ k. Unit {0}) → Rows old s false (λ k. k < order r tier w) → Ready s false w
  ready_rising w falling rising d leaves allowed =
      let leaves' : Leaving r w d = rw (same.rack) at leaves in
      let to : head r d ≡ head s.rack.now d = λ i. head (sym same.rack i) d in
      let same_up : up r tier d ≡ up s.rack.now (tier_of s.tiers.items) d = λ i. up (sym same.rack i) (tier_of (sym same.tiers i)) d in
      let low = head_below r d leaves'.0 in
      let row : RowIs s (not (up r tier d)) (head r d) =
      ⊎_elim
      (λ (rises : up r tier d ≡ true).
      let before = up_before r tier d leaves'.0 rises in
      let at : order r tier (tail r d) ≡ order r tier w = ap (order r tier) leaves'.1 in
      subst (λ u. RowIs s (not u) (head r d)) (sym rises) (rising (head r d) low (omega (arith, before, at))))
      (λ (falls : up r tier d ≡ false). subst (λ u. RowIs s (not u) (head r d)) (sym falls) (falling (head r d) low tt))
      (cases_Bool (up r tier d))
      in
      subst (λ u. RowIs s (not u) (head s.rack.now d)) same_up (subst (RowIs s (not (up r tier d))) to row)
