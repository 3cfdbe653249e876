-- A row of a table that is filled place by place. Assumes nothing.
use Rattle.std.proofs.Common.{◌≡◌, ℕ, ◌+◌, ◌*◌, ◌<◌, ◌≤◌, Bool, true, false, not, ◌&&◌, ◌⊎◌, length, get_or, set, None, Option, sym, refl, ap, ◌∙◌, subst, inl, inr, ⊎_elim, arith}
use Rattle.std.proofs.lemmas.Bool.{cases_eq}
use Rattle.std.proofs.lemmas.List.{get_or-set_same, get_or-set_other}
use Rattle.rack.specs.declared.rack.Rack.{Rack}
use Rattle.rack.specs.Racks.{node_count, head, Leaving}
use Rattle.rack.proofs.Facts.{head_below, ends_differ}
use Rattle.routing.proofs.Columns.{pair_below, same_pair}
use Rattle.up_down.specs.declared.begin.Begin.{Begin}
use Rattle.up_down.specs.declared.source.UpDown.{UpDown}
use Rattle.up_down.specs.Ways.{up}
use Rattle.up_down.specs.Sources.{tier_of, table_of, begin_at}
use Rattle.up_down.specs.Tables.{BeginIs, RowIs, Ready, Given, Same, RowFilled}

-- of two tables there is one and the other
either : (a b : Bool) → (a ≡ b) ⊎ (a ≡ not b)
either true true = inl refl
either true false = inr refl
either false true = inr refl
either false false = inl refl

pub same_all : (s : UpDown) → Same s s
same_all s = record { rack = refl; tiers = refl; rising = refl; falling = refl }

pub same_then : (a b c : UpDown) → Same a b → Same b c → Same a c
same_then a b c p q = record { rack = q.rack ∙ p.rack; tiers = q.tiers ∙ p.tiers; rising = q.rising ∙ p.rising; falling = q.falling ∙ p.falling }

pub given_kept : (root : ℕ) (old new : UpDown) → Same old new → Given root old → Given root new
given_kept root old new same given = record {
  tiers = rw (same.rack, same.tiers) given.tiers;
  rising = rw same.rack (same.rising ∙ given.rising);
  falling = rw same.rack (same.falling ∙ given.falling);
}

-- a place that holds how ways begin still does
is_kept : (old new : UpDown) (v : ℕ) (d : Bool) (x : ℕ) (o : Option Begin) → Same old new → BeginIs old.rack.now (tier_of old.tiers.items) v d x o → BeginIs new.rack.now (tier_of new.tiers.items) v d x o
is_kept old new v d x o same is = rw (same.rack, same.tiers) is

-- a row whose places are as they were is still filled
pub row_kept : (old new : UpDown) (d : Bool) (x : ℕ) → Same old new → ((v : ℕ) → v < node_count old.rack.now → begin_at new d x v ≡ begin_at old d x v) → RowIs old d x → RowIs new d x
row_kept old new d x same cells row v low =
    let inside : v < node_count old.rack.now = rw (same.rack) at low in
    is_kept old new v d x (begin_at new d x v) same (rw (cells v inside) (row v inside))

-- a table has a place for each pair of nodes
table_long : (root : ℕ) (s : UpDown) (d : Bool) → Given root s → length (table_of s d) ≡ node_count s.rack.now * node_count s.rack.now
table_long root s true given = given.falling
table_long root s false given = given.rising

-- of row w of one table the first h places are filled, and nothing else has changed
pub record Filling (down : Bool) (w h : ℕ) (old s : UpDown) : Type 0 where
  pub same : Same old s
  pub done : (v : ℕ) → v < h → BeginIs old.rack.now (tier_of old.tiers.items) v down w (begin_at s down w v)
  pub others : (d : Bool) (x v : ℕ) → x < node_count old.rack.now → v < node_count old.rack.now → ((d ≡ down) × (x ≡ w) × (v < h) → ⊥) → begin_at s d x v ≡ begin_at old d x v

pub filling_start : (down : Bool) (w : ℕ) (s : UpDown) → Filling down w 0 s s
filling_start down w s = record { same = same_all s; done = λ v low. absurd (omega arith); others = λ d x v _ _ _. refl }

-- the rows behind the channels out of node w are none of its own
pub ready_still : (down : Bool) (w h : ℕ) (old s : UpDown) → Filling down w h old s → Ready old down w → Ready s down w
ready_still down w h old s filling ready d leaves allowed =
    let r = old.rack.now in
    let tier = tier_of old.tiers.items in
    let leaves' : Leaving r w d = rw (filling.same.rack) at leaves in
    let allowed' : down && up r tier d ≡ false = rw (filling.same.rack, filling.same.tiers) at allowed in
    let row : RowIs s (not (up r tier d)) (head r d) =
    row_kept old s (not (up r tier d)) (head r d) filling.same
    (λ v low. filling.others (not (up r tier d)) (head r d) v (head_below r d leaves'.0) low (λ own. ends_differ r d leaves'.0 (leaves'.1 ∙ sym own.1)))
    (ready d leaves' allowed')
    in
    let to : head r d ≡ head s.rack.now d = λ i. head (sym filling.same.rack i) d in
    let rises : up r tier d ≡ up s.rack.now (tier_of s.tiers.items) d = λ i. up (sym filling.same.rack i) (tier_of (sym filling.same.tiers i)) d in
    subst (λ u. RowIs s (not u) (head s.rack.now d)) rises (subst (RowIs s (not (up r tier d))) to row)

module _ (root : ℕ) (down : Bool) (w h : ℕ) (old s new : UpDown) (given : Given root old) (low : w < node_count old.rack.now) (inside : h < node_count old.rack.now) (filling : Filling down w h old s) (b : Option Begin) (place : ℕ) (at : place ≡ node_count s.rack.now * w + h) (same : Same s new) (written : table_of new down ≡ set (table_of s down) place b) (other : table_of new (not down) ≡ table_of s (not down)) where
  abbrev n : ℕ
  n = node_count old.rack.now

  here : place ≡ n * w + h
  here = at ∙ ap (λ (r : Rack). node_count r * w + h) filling.same.rack

  cell_new : (d : Bool) (x v : ℕ) → begin_at new d x v ≡ get_or (table_of new d) (n * x + v) None
  cell_new d x v = ap (λ (r : Rack). get_or (table_of new d) (node_count r * x + v) None) (same.rack ∙ filling.same.rack)

  cell_old : (d : Bool) (x v : ℕ) → begin_at s d x v ≡ get_or (table_of s d) (n * x + v) None
  cell_old d x v = ap (λ (r : Rack). get_or (table_of s d) (node_count r * x + v) None) filling.same.rack

  now : begin_at new down w h ≡ b
  now =
      let long = table_long root s down (given_kept root old s filling.same given) in
      let size : length (table_of s down) ≡ n * n = long ∙ ap (λ (r : Rack). node_count r * node_count r) filling.same.rack in
      cell_new down w h ∙ ap (λ t. get_or t (n * w + h) None) written ∙ ap (λ k. get_or (set (table_of s down) place b) k None) (sym here)
      ∙ get_or-set_same (table_of s down) place b None (omega (arith, here, size, pair_below n w h low inside))

  kept : (d : Bool) (x v : ℕ) → x < n → v < n → ((d ≡ down) × (x ≡ w) × (v ≡ h) → ⊥) → begin_at new d x v ≡ begin_at s d x v
  kept d x v l m off =
      ⊎_elim
      (λ (e : d ≡ down).
      let apart : n * x + v ≡ place → ⊥ = λ z. let p = same_pair n x v w h m inside (z ∙ here) in off (e, p.0, p.1) in
      cell_new d x v ∙ ap (λ k. get_or (table_of new k) (n * x + v) None) e ∙ ap (λ t. get_or t (n * x + v) None) written ∙ get_or-set_other (table_of s down) place (n * x + v) b None apart
      ∙ ap (λ k. get_or (table_of s k) (n * x + v) None) (sym e) ∙ sym (cell_old d x v))
      (λ (e : d ≡ not down).
      cell_new d x v ∙ ap (λ k. get_or (table_of new k) (n * x + v) None) e ∙ ap (λ t. get_or t (n * x + v) None) other ∙ ap (λ k. get_or (table_of s k) (n * x + v) None) (sym e)
      ∙ sym (cell_old d x v))
      (either d down)

  -- the next place is filled
  pub filling_more : BeginIs s.rack.now (tier_of s.tiers.items) h down w b → Filling down w (h + 1) old new
  filling_more is = record {
    same = same_then old s new filling.same same;
    done = λ v l.
        ⊎_elim
        (λ (e : v ≡ h). subst (λ k. BeginIs old.rack.now (tier_of old.tiers.items) k down w (begin_at new down w k)) (sym e) (rw now (rw (filling.same.rack, filling.same.tiers) at is)))
        (λ (ne : v ≡ h → ⊥).
        let m : v < n = omega (arith, inside, low, ne) in
        subst (BeginIs old.rack.now (tier_of old.tiers.items) v down w) (sym (kept down w v low m (λ own. ne own.2))) (filling.done v (omega arith)))
        (cases_eq v h);
    others = λ d x v l m off.
        kept d x v l m (λ own. off (own.0, own.1, omega (arith, own.2))) ∙ filling.others d x v l m (λ own. off (own.0, own.1, omega (arith, own.2)));
  }

-- all places are filled
pub filling_all : (down : Bool) (w h : ℕ) (old s : UpDown) → node_count old.rack.now ≤ h → Filling down w h old s → RowFilled down w old s
filling_all down w h old s over filling = record {
  same = filling.same;
  row = λ v low.
      let inside : v < node_count old.rack.now = rw (filling.same.rack) at low in
      is_kept old s v down w (begin_at s down w v) filling.same (filling.done v (omega (arith, over, inside)));
  others = λ d x v l m off. filling.others d x v l m (λ own. off (own.0, own.1));
}
