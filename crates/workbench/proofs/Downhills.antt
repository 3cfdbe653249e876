-- Forwarding tables that answer as the downhill source does. Assumes nothing.
use Rattle.std.proofs.Common.{◌≡◌, ℕ, zero, suc, ◌+◌, ◌-◌, ◌*◌, ◌<◌, ◌≤◌, Bool, true, false, cond, not, ◌&&◌, List, ◌++◌, length, take, drop, get_or, Some, None, sym, ap, ◌∙◌, subst, ⊎_elim, arith, eqb-true, ne_eqb, slice_index}
use Rattle.std.specs.Prelude.{◌==◌}
use borrow.Rule.Slice.PartMut.{put_mid}
use Rattle.std.proofs.lemmas.Nat.{mul-add-lt}
use Rattle.std.proofs.Math.Nat.{mul-le-mul_left}
use Rattle.std.proofs.lemmas.List.{get_or_append_left, get_or-append_right, get_or-take, length-take-le}
use Rattle.std.proofs.lemmas.Bool.{cases_Bool, cases_eq, and_from, and_left, and_right, cond-true, cond-false}
use Rattle.std.proofs.lemmas.Option.{none-some, same_Some}
use Rattle.rack.specs.declared.rack.Rack.{Rack}
use Rattle.rack.specs.Racks.{node_count, channel_count, head, EntersSwitch}
use Rattle.rack.proofs.Facts.{head_below, host_below}
use Rattle.routing.specs.Sources.{enters_switch, is_end, entry_of, told, one_nearer, least, downhill_route}
use Rattle.routing.proofs.Tests.{entered, enters_yes}
use Rattle.workbench.specs.RackFiles.{AnswersAs}

-- the least number that passes is one of those asked
least_low : (p : ℕ → Bool) (k n j : ℕ) → least p k n ≡ Some j → j < k + n
least_low p k zero j e = absurd (none-some j e)
least_low p k (suc n) j e =
    ⊎_elim
    (λ (here : p k ≡ true).
    let same : k ≡ j = same_Some _ _ (sym (cond-true (p k) _ _ here) ∙ e) in
    omega (arith, same))
    (λ (off : p k ≡ false).
    let low = least_low p (k + 1) n j (sym (cond-false (p k) _ _ off) ∙ e) in
    omega (arith, low))
    (cases_Bool (p k))

-- an entry that is one more than a channel names it
pub entry_some : (x d : ℕ) → x ≡ d + 1 → entry_of x ≡ Some d
entry_some x d e =
    let less : x - 1 ≡ d = omega arith in
    cond-false (x == 0) None _ (ne_eqb x 0 (λ z. omega arith)) ∙ ap Some less

-- the rows of lower numbers lie before a row
row_before : (n w x v : ℕ) → x < w → v < n → n * x + v < n * w
row_before n w x v low inside = omega (arith, mul-add-lt x n v w low inside)

-- and the row of a number below the count lies inside
pub row_inside : (n w : ℕ) → w < n → n * w + n ≤ n * n
row_inside n w low = let up_to : w + 1 ≤ n = omega arith in omega (arith, mul-le-mul_left n up_to)

-- a part of a table that begins at place a is written anew
module _ (a k : ℕ) (table row new : List ℕ) (is : new ≡ put_mid a k table row) (inside : a ≤ length table) where
  abbrev rest : List ℕ
  rest = drop k (drop a table)

  part_written : (j : ℕ) → j < length row → slice_index new (a + j) ≡ slice_index row j
  part_written j low =
      let e : a + j - a ≡ j = omega arith in
      ap (λ l. get_or l (a + j) 0) is ∙ get_or-append_right (take a table) (row ++ rest) a (a + j) 0 (length-take-le a table inside) (omega arith)
      ∙ ap (λ i. get_or (row ++ rest) i 0) e ∙ get_or_append_left row rest 0 j low

  part_before : (j : ℕ) → j < a → slice_index new j ≡ slice_index table j
  part_before j low =
      ap (λ l. get_or l j 0) is ∙ get_or_append_left (take a table) _ 0 j (omega (arith, length-take-le a table inside)) ∙ get_or-take a table j 0 low

module _ (r : Rack) (distances : List ℕ) where
  -- whether the downhill source looks for a channel
  abbrev looks : ℕ → ℕ → Bool
  looks c v = enters_switch r c && (is_end r v && not (told r distances (head r c) v == 255))

  -- the channel that is named is one
  pub downhill_low : (c v j : ℕ) → downhill_route r distances c v ≡ Some j → j < channel_count r
  downhill_low c v j e =
      ⊎_elim
      (λ (on : looks c v ≡ true).
      let low = least_low _ 0 (channel_count r) j (sym (cond-true (looks c v) _ _ on) ∙ e) in
      omega (arith, low))
      (λ (off : looks c v ≡ false). absurd (none-some j (sym (cond-false (looks c v) _ _ off) ∙ e)))
      (cases_Bool (looks c v))

  -- behind two channels that enter one switch the same is named
  pub same_switch : (b c v : ℕ) → enters_switch r b ≡ true → enters_switch r c ≡ true → head r b ≡ head r c → downhill_route r distances b v ≡ downhill_route r distances c v
  same_switch b c v p q e =
      λ i. cond ((p ∙ sym q) i && (is_end r v && not (told r distances (e i) v == 255))) (least (one_nearer r distances (e i) v) 0 (channel_count r)) None

  -- the rows of the switches below a number hold what the downhill source names
  abbrev pub RowsBelow : List ℕ → ℕ → Type 0
  RowsBelow table n = (c v : ℕ) → enters_switch r c ≡ true → v < node_count r → head r c < n → entry_of (slice_index table (node_count r * head r c + v)) ≡ downhill_route r distances c v

  -- the row of switch w is written, behind a channel that enters it
  pub rows_more :
      (table row new : List ℕ) (w b k : ℕ) → EntersSwitch r b w → new ≡ put_mid (node_count r * w) k table row → node_count r * w ≤ length table → length row ≡ node_count r →
      ((v : ℕ) → v < length row → entry_of (slice_index row v) ≡ downhill_route r distances b v) → RowsBelow table w → RowsBelow new (w + 1)
  rows_more table row new w b k enters is inside long answers rows c v on low below =
      ⊎_elim
      (λ (here : head r c ≡ w).
      ap (λ x. entry_of (slice_index new (node_count r * x + v))) here
      ∙ ap entry_of (part_written (node_count r * w) k table row new is inside v (omega (arith, long)))
      ∙ answers v (omega (arith, long))
      ∙ same_switch b c v (enters_yes r b w enters) on (enters.1 ∙ sym here))
      (λ (other : head r c ≡ w → ⊥).
      ap entry_of (part_before (node_count r * w) k table row new is inside (node_count r * head r c + v) (row_before (node_count r) w (head r c) v (omega arith) low)) ∙ rows c v on low (omega arith))
      (cases_eq (head r c) w)

  -- no channel enters node w, or it is no switch
  pub rows_skip : (table : List ℕ) (w : ℕ) → ((c : ℕ) → EntersSwitch r c w → ⊥) → RowsBelow table w → RowsBelow table (w + 1)
  rows_skip table w none rows c v on low below =
      ⊎_elim
      (λ (here : head r c ≡ w). absurd (none c (subst (EntersSwitch r c) here (entered r c on))))
      (λ (other : head r c ≡ w → ⊥). rows c v on low (omega arith))
      (cases_eq (head r c) w)

  -- with all rows the table answers as the downhill source
  pub rows_all : (table : List ℕ) → RowsBelow table (node_count r) → AnswersAs r table (downhill_route r distances)
  rows_all table rows c v =
      ⊎_elim
      (λ (on : enters_switch r c ≡ true).
      ⊎_elim
      (λ (host : is_end r v ≡ true).
      cond-true (enters_switch r c && is_end r v) _ _ (and_from _ _ on host)
      ∙ rows c v on (host_below r v (eqb-true _ _ host)) (head_below r c (entered r c on).0))
      (λ (other : is_end r v ≡ false).
      cond-false (enters_switch r c && is_end r v) _ _ (and_right (enters_switch r c) _ other) ∙ sym (cond-false (looks c v) _ _ (and_right (enters_switch r c) _ (and_left _ _ other))))
      (cases_Bool (is_end r v)))
      (λ (off : enters_switch r c ≡ false).
      cond-false (enters_switch r c && is_end r v) _ _ (and_left _ _ off) ∙ sym (cond-false (looks c v) _ _ (and_left _ _ off)))
      (cases_Bool (enters_switch r c))
