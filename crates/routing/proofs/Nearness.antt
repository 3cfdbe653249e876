-- What the rounds of the search keep of the column of v, and why it is done when a round finds no node. Assumes nothing.
use Rattle.std.proofs.Common.{◌≡◌, ℕ, zero, suc, ◌+◌, ◌*◌, ◌<◌, ◌≤◌, Bool, true, false, ◌⊎◌, List, length, set, sym, refl, ap, ◌∙◌, subst, inl, inr, ⊎_elim, arith}
use Rattle.std.proofs.lemmas.Bool.{cases_eq}
use Rattle.rack.specs.declared.rack.Rack.{Rack}
use Rattle.rack.specs.Racks.{node_count, head, Switch, Leaving}
use Rattle.rack.proofs.Facts.{head_below}
use Rattle.routing.specs.Ways.{Way, Fewest, far, Leads, Passes, Spread}
use Rattle.routing.proofs.Missing.{missing, missing_few, missing_less}
use Rattle.routing.proofs.Columns.{far_set_same, far_set_other}

-- after d rounds: a distance is at most d and of a way with that many channels, no way of at most d channels is shorter than its node's distance, and at least d nodes besides v have a way
pub record Settled (r : Rack) (v d : ℕ) (t : List ℕ) : Type 0 where
  pub told : (w : ℕ) → w < node_count r → (far (node_count r) v t w ≡ 255) ⊎ ((far (node_count r) v t w ≤ d) × Way r v (far (node_count r) v t w) w)
  pub near : (k w : ℕ) → w < node_count r → k ≤ d → Way r v k w → far (node_count r) v t w ≤ k
  pub room : d + missing (node_count r) v t < node_count r

way_more : (r : Rack) (v j w x c : ℕ) → Leaving r w c → head r c ≡ x → (0 < j → Switch r x) → Way r v j x → Way r v (suc j) w
way_more r v j w x c leaves is switch way = (c, leaves, λ h. subst (Switch r) (sym is) (switch h), subst (Way r v j) (sym is) way)

-- before the first round v alone has a distance, 0
module _ (r : Rack) (v : ℕ) (old : List ℕ) (l : v < node_count r) (long : node_count r * node_count r ≤ length old) (blank : (w : ℕ) → w < node_count r → far (node_count r) v old w ≡ 255) where
  abbrev first : List ℕ
  first = set old (node_count r * v + v) 0

  here : far (node_count r) v first v ≡ 0
  here = far_set_same (node_count r) v v 0 old l l long

  here_at : (w : ℕ) → w ≡ v → far (node_count r) v first w ≡ 0
  here_at w e = ap (far (node_count r) v first) e ∙ here

  start_told : (w : ℕ) → w < node_count r → (far (node_count r) v first w ≡ 255) ⊎ ((far (node_count r) v first w ≤ 0) × Way r v (far (node_count r) v first w) w)
  start_told w h =
      ⊎_elim
      (λ (e : w ≡ v). let z = here_at w e in inr (omega arith, subst (λ k. Way r v k w) (sym z) e))
      (λ (ne : w ≡ v → ⊥). inl (far_set_other (node_count r) v v 0 old l w ne ∙ blank w h))
      (cases_eq w v)

  start_near : (k w : ℕ) → w < node_count r → k ≤ 0 → Way r v k w → far (node_count r) v first w ≤ k
  start_near zero w h low way = omega (arith, here_at w way)
  start_near (suc k) w h low way = absurd (omega arith)

  pub settled_start : Settled r v 0 first
  settled_start = record {
    told = start_told;
    near = start_near;
    room = omega (arith, missing_few (node_count r) v v first l (λ e. omega (arith, here)));
  }

-- one round
module _ (r : Rack) (v d : ℕ) (old new : List ℕ) (found : Bool) (few : d < 128) (l : v < node_count r) (settled : Settled r v d old) (round : Spread r v d (node_count r) old new found) where
  abbrev before : ℕ → ℕ
  before w = far (node_count r) v old w

  abbrev after : ℕ → ℕ
  after w = far (node_count r) v new w

  abbrev Grew : ℕ → Type 0
  Grew w = (x : ℕ) × (x < node_count r) × Passes r v d old x × Leads r w x

  -- who has a distance has a way of so many channels
  way_of : (x : ℕ) → x < node_count r → before x ≤ d → Way r v (before x) x
  way_of x h low =
      ⊎_elim
      (λ (e : before x ≡ 255). absurd (omega arith))
      (λ (p : (before x ≤ d) × Way r v (before x) x). p.1)
      (settled.told x h)

  -- who is passed at distance d > 0 is a switch, since v has distance 0
  passed_switch : (x : ℕ) → Passes r v d old x → 0 < d → Switch r x
  passed_switch x p some =
      ⊎_elim
      (λ (e : x ≡ v). absurd (omega (arith, p.0, ap before e, settled.near 0 v l (omega arith) refl)))
      (λ s. s)
      p.1

  grown_way : (w : ℕ) → Grew w → Way r v (suc d) w
  grown_way w g =
      let x = g.0 in
      let is : before x ≡ d = g.2.0 in
      way_more r v d w x g.3.0 g.3.1 g.3.2 (passed_switch x g.2) (subst (λ k. Way r v k x) is (way_of x g.1 (omega arith)))

  -- a channel leads from w to x, which has distance d at most: then w is one farther at most
  lead : (w x c : ℕ) → w < node_count r → x < node_count r → Leaving r w c → head r c ≡ x → before x ≤ d → (0 < before x → Switch r x) → after w ≤ before x + 1
  lead w x c h h' leaves is low switch =
      ⊎_elim
      (λ (e : before x ≡ d).
      let kind : (x ≡ v) ⊎ Switch r x = ⊎_elim (λ (z : before x ≡ 0). inl (subst (λ k. Way r v k x) z (way_of x h' low))) (λ (z : before x ≡ 0 → ⊥). inr (switch (omega arith))) (cases_eq (before x) 0) in
      let has : after w ≡ 255 → ⊥ = round.all x h' (e, kind) w (c, leaves, is) in
      ⊎_elim
      (λ (same : after w ≡ before w).
      ⊎_elim
      (λ (z : before w ≡ 255). absurd (has (same ∙ z)))
      (λ (p : (before w ≤ d) × Way r v (before w) w). omega (arith, p.0))
      (settled.told w h))
      (λ (grew : (before w ≡ 255) × (after w ≡ d + 1) × Grew w). omega (arith, grew.1))
      (round.grown.column w h))
      (λ (ne : before x ≡ d → ⊥).
      let near : before w ≤ suc (before x) = settled.near (suc (before x)) w h (omega arith) (way_more r v (before x) w x c leaves is switch (way_of x h' low)) in
      ⊎_elim
      (λ (same : after w ≡ before w). omega arith)
      (λ (grew : (before w ≡ 255) × (after w ≡ d + 1) × Grew w). absurd (omega (arith, grew.0)))
      (round.grown.column w h))
      (cases_eq (before x) d)

  -- no way of at most d + 1 channels is shorter than its node's distance
  after_near : (k w : ℕ) → w < node_count r → k ≤ d + 1 → Way r v k w → after w ≤ k
  after_near zero w h low way =
      let z : before w ≤ 0 = settled.near 0 w h (omega arith) way in
      ⊎_elim
      (λ (same : after w ≡ before w). omega arith)
      (λ (grew : (before w ≡ 255) × (after w ≡ d + 1) × Grew w). absurd (omega (arith, grew.0)))
      (round.grown.column w h)
  after_near (suc k) w h low way =
      let x = head r way.0 in
      let h' = head_below r way.0 way.1.0 in
      let n : before x ≤ k = settled.near k x h' (omega arith) way.3 in
      omega (arith, lead w x way.0 h h' way.1 refl (omega arith) (λ some. way.2 (omega arith)))

  after_told : (w : ℕ) → w < node_count r → (after w ≡ 255) ⊎ ((after w ≤ d + 1) × Way r v (after w) w)
  after_told w h =
      ⊎_elim
      (λ (same : after w ≡ before w).
      ⊎_elim
      (λ (e : before w ≡ 255). inl (same ∙ e))
      (λ (p : (before w ≤ d) × Way r v (before w) w). inr (omega (arith, p.0), subst (λ k. Way r v k w) (sym same) p.1))
      (settled.told w h))
      (λ (grew : (before w ≡ 255) × (after w ≡ d + 1) × Grew w).
      let e : after w ≡ suc d = omega (arith, grew.1) in
      inr (omega arith, subst (λ k. Way r v k w) (sym e) (grown_way w grew.2)))
      (round.grown.column w h)

  -- who has no way had none
  keeps_missing : (w : ℕ) → w < node_count r → after w ≡ 255 → before w ≡ 255
  keeps_missing w h e =
      ⊎_elim
      (λ (same : after w ≡ before w). sym same ∙ e)
      (λ (grew : (before w ≡ 255) × (after w ≡ d + 1) × Grew w). grew.0)
      (round.grown.column w h)

  pub settled_more : found ≡ true → Settled r v (d + 1) new
  settled_more e =
      let s = round.grown.some e in
      record {
        told = after_told;
        near = after_near;
        room = omega (arith, settled.room, missing_less (node_count r) v s.0 old new s.1 keeps_missing s.2 (λ z. omega (arith, s.3, z)));
      }

  -- a round that found no node: whatever has a way has a distance, which none of its ways is below
  module _ (e : found ≡ false) where
    same_all : (w : ℕ) → w < node_count r → after w ≡ before w
    same_all w h = round.grown.none e w h

    done : (k w : ℕ) → w < node_count r → Way r v k w → (after w ≤ k) × (after w ≤ d)
    done zero w h way = let z : after w ≤ 0 = after_near zero w h (omega arith) way in (z, omega arith)
    done (suc k) w h way =
        let x = head r way.0 in
        let h' = head_below r way.0 way.1.0 in
        let p = done k x h' way.3 in
        let s = same_all x h' in
        let low : before x ≤ d = omega (arith, p.1) in
        let some' : 0 < before x → Switch r x = λ some. way.2 (omega (arith, p.0)) in
        let m = lead w x way.0 h h' way.1 refl low some' in
        let bound : after w ≤ d =
        ⊎_elim
        (λ (z : before w ≡ 255). absurd (omega (arith, same_all w h)))
        (λ (q : (before w ≤ d) × Way r v (before w) w). omega (arith, q.0, same_all w h))
        (settled.told w h) in
        (omega (arith, p.0), bound)

    pub settled_end : (w : ℕ) → w < node_count r → Fewest r v w (after w)
    settled_end w h =
        let s = same_all w h in
        record {
          reached = λ low.
              ⊎_elim
              (λ (z : before w ≡ 255). absurd (omega arith))
              (λ (q : (before w ≤ d) × Way r v (before w) w). subst (λ k. Way r v k w) (sym s) q.1)
              (settled.told w h);
          shortest = λ k way. (done k w h way).0;
          none = λ z k way. omega (arith, (done k w h way).1);
          small =
              ⊎_elim
              (λ (z : before w ≡ 255). omega arith)
              (λ (q : (before w ≤ d) × Way r v (before w) w). omega (arith, q.0))
              (settled.told w h);
        }
