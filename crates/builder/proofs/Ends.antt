-- Turns at the two ends of a path are never claimed. Assumes nothing.
use Rattle.std.proofs.Common.{◌≡◌, ℕ, zero, suc, ◌+◌, ◌-◌, ◌<◌, ◌≤◌, min, true, ltb, leb, ◌⊎◌, List, length, get_or, take, replicate, Option, sym, refl, ap, ◌∙◌, subst, ⊎_elim, arith, eqb-true, le-leb}
use Rattle.std.proofs.lemmas.List.{length-replicate, get_or-take, get_or_past, get_or-replicate, length-take-le}
use Rattle.std.proofs.lemmas.Bool.{cases_lt, cond-true}
use Rattle.rack.specs.declared.rack.Rack.{Rack}
use Rattle.rack.specs.Racks.{node_count, channel_count, tail, tail_port, head, Host, Switch}
use Rattle.rack.proofs.Facts.{host_no_switch, same_port, tail_port_within}
use Rattle.routing.specs.Sources.{enters_switch}
use Rattle.routing.specs.Turns.{turns, row_start, stored_lane, lane_bytes}
use Rattle.routing.specs.Paths.{PairOf}
use Rattle.routing.proofs.Tests.{both_snd, turns_below, turns_enters, entered}
use Rattle.builder.specs.Method.{PathOf, Middle, entry_place, Tables, blank, PairBuilt, Taken, Receivers, Senders}
use Rattle.builder.specs.Laws.{EndsKeep0, FirstAndLast0}
use Rattle.builder.proofs.Rows.{rows_apart, row_inside}
use Rattle.builder.proofs.Pathed.{turn_on}
use Rattle.builder.proofs.Rising.{at_middle, long_senders}
use Rattle.builder.proofs.Taking.{blank_long}

module _ (r : Rack) where
  joins : (c d : ℕ) → turns r c d ≡ true → tail r d ≡ head r c
  joins c d turn = eqb-true (tail r d) (head r c) (both_snd (ltb d (channel_count r)) _ (both_snd (enters_switch r c) _ turn))

  into_switch : (c d : ℕ) → turns r c d ≡ true → Switch r (head r c)
  into_switch c d turn = (entered r c (turns_enters r c d turn)).2

  -- the entry of a turn, by its byte
  lane_byte : (lanes : List ℕ) (c d s : ℕ) → turns r c d ≡ true → lane_bytes (channel_count r) ≤ length lanes → stored_lane r lanes c d s ≡ min (get_or lanes (row_start c (tail_port r d) + s) 0) 7
  lane_byte lanes c d s turn long =
      cond-true (turns r c d) _ 0 turn ∙ cond-true (leb (row_start c (tail_port r d) + 16) (length lanes)) (min (get_or lanes (row_start c (tail_port r d) + s) 0) 7) 0 (le-leb _ _ (row_inside r lanes c d turn long))

  -- two turns whose entries share a byte are the same turn
  same_turn : (a b c d s t : ℕ) → turns r a b ≡ true → turns r c d ≡ true → s < 16 → t < 16 → row_start a (tail_port r b) + s ≡ row_start c (tail_port r d) + t → (a ≡ c) × (b ≡ d)
  same_turn a b c d s t ab cd low low' e =
      let p = tail_port_within r b (turns_below r a b ab) in
      let q = tail_port_within r d (turns_below r c d cd) in
      let same = rows_apart a c (tail_port r b) (tail_port r d) s t p.0 p.1 q.0 q.1 low low' e in (
        same.0,
        same_port r (head r c) (tail_port r d) b d ((turns_below r a b ab, joins a b ab ∙ ap (head r) same.0), same.1) ((turns_below r c d cd, joins c d cd), refl),
      )

  -- the bytes of the turns at the ends are 0
  abbrev BlankEnds : List ℕ → Type 0
  BlankEnds lanes = (c d s : ℕ) → turns r c d ≡ true → Host r (tail r c) ⊎ Host r (head r d) → s < 16 → get_or lanes (row_start c (tail_port r d) + s) 0 ≡ 0

  module _ (route : ℕ → ℕ → Option ℕ) (count : ℕ) where
    -- a middle turn goes from a channel out of a switch to a channel into a switch
    no_end : (u v : ℕ) (path : List ℕ) → PairOf r u v → PathOf r route u v path → (i : ℕ) → Middle path i → Host r (tail r (get_or path i 0)) ⊎ Host r (head r (get_or path (i + 1) 0)) → ⊥
    no_end u v path pair is i m h =
        let back : i - 1 + 1 ≡ i = omega (arith, m.0) in
        let before : turns r (get_or path (i - 1) 0) (get_or path i 0) ≡ true = subst (λ k. turns r (get_or path (i - 1) 0) (get_or path k 0) ≡ true) back (turn_on r route u v pair path is (i - 1) (omega (arith, m.1))) in
        let after : turns r (get_or path (i + 1) 0) (get_or path (i + 1 + 1) 0) ≡ true = turn_on r route u v pair path is (i + 1) (omega (arith, m.1)) in
        ⊎_elim
        (λ (host : Host r (tail r (get_or path i 0))). host_no_switch r (tail r (get_or path i 0)) host (subst (Switch r) (sym (joins (get_or path (i - 1) 0) (get_or path i 0) before)) (into_switch (get_or path (i - 1) 0) (get_or path i 0) before)))
        (λ (host : Host r (head r (get_or path (i + 1) 0))). host_no_switch r (head r (get_or path (i + 1) 0)) host (into_switch (get_or path (i + 1) 0) (get_or path (i + 1 + 1) 0) after))
        h

    ends_pair : (u v : ℕ) (was now : Tables) → PairOf r u v → PairBuilt r route count u v was now → BlankEnds was.lanes → BlankEnds now.lanes
    ends_pair u v was now pair b z c d s turn host low =
        let path = b.path in
        let t = b.level in
        ⊎_elim
        (λ (f : (i : ℕ) × Middle path i × (row_start c (tail_port r d) + s ≡ entry_place r path t i)).
        let i = f.0 in
        let on = turn_on r route u v pair path b.walked i (omega (arith, f.1.1)) in
        let same = same_turn c d (get_or path i 0) (get_or path (i + 1) 0) s t turn on low b.placed.lowest.level f.2 in
        absurd (no_end u v path pair b.walked i f.1 (subst (λ x. Host r (tail r (get_or path i 0)) ⊎ Host r (head r x)) same.1 (subst (λ x. Host r (tail r x) ⊎ Host r (head r d)) same.0 host))))
        (λ (f : (i : ℕ) → Middle path i → row_start c (tail_port r d) + s ≡ entry_place r path t i → ⊥). b.placed.claimed.kept _ f ∙ z c d s turn host low)
        (at_middle r path t (row_start c (tail_port r d) + s))

    ends_taken : (u v : ℕ) (was now : Tables) → Taken r route count u v was now → BlankEnds was.lanes → BlankEnds now.lanes
    ends_taken u v was now t z =
        ⊎_elim
        (λ (h : PairOf r u v × PairBuilt r route count u v was now). ends_pair u v was now h.0 h.1 z)
        (λ (h : (PairOf r u v → ⊥) × (now ≡ was)). subst (λ (x : Tables). BlankEnds x.lanes) (sym h.1) z)
        t

    ends_row : (u n : ℕ) (was now : Tables) → Receivers r route count u n was now → BlankEnds was.lanes → BlankEnds now.lanes
    ends_row u zero was now t z = subst (λ (x : Tables). BlankEnds x.lanes) (sym t) z
    ends_row u (suc n) was now t z = ends_taken u n t.0 now t.2 (ends_row u n was t.0 t.1 z)

    ends_all : (n : ℕ) (was now : Tables) → Senders r route count n was now → BlankEnds was.lanes → BlankEnds now.lanes
    ends_all zero was now t z = subst (λ (x : Tables). BlankEnds x.lanes) (sym t) z
    ends_all (suc n) was now t z = ends_row n (node_count r) t.0 now t.2 (ends_all n was t.0 t.1 z)

all_0 : (n k : ℕ) → ◌≡◌ {A = ℕ} (get_or (replicate n 0) k 0) 0
all_0 n k =
    ⊎_elim
    (λ (l : k < n). get_or-replicate n k 0 0 l)
    (λ (l : n ≤ k). get_or_past (replicate n 0) k 0 (omega (arith, length-replicate {A = ℕ} n 0)))
    (cases_lt k n)

pub first_and_last_0 : FirstAndLast0
first_and_last_0 r route count now built c d s turn host low =
    let z = ends_all r route count (node_count r) (blank r) now built (λ c d s turn host low. all_0 (lane_bytes (channel_count r)) (row_start c (tail_port r d) + s)) in
    let long = long_senders r route count (node_count r) (blank r) now (blank_long r (blank r) refl) built in
    lane_byte r now.lanes c d s turn long.0 ∙ ap (λ n. min n 7) (z c d s turn host low)

-- further places do not matter
pub ends_beyond : (r : Rack) (lanes : List ℕ) → lane_bytes (channel_count r) ≤ length lanes → EndsKeep0 r (take (lane_bytes (channel_count r)) lanes) → EndsKeep0 r lanes
ends_beyond r lanes long z c d s turn host low =
    let L = lane_bytes (channel_count r) in
    let full : length (take L lanes) ≡ L = length-take-le L lanes long in
    let inside = row_inside r (take L lanes) c d turn (omega (arith, full)) in
    let byte : get_or (take L lanes) (row_start c (tail_port r d) + s) 0 ≡ get_or lanes (row_start c (tail_port r d) + s) 0 = get_or-take L lanes (row_start c (tail_port r d) + s) 0 (omega arith) in
    lane_byte r lanes c d s turn long ∙ ap (λ n. min n 7) (sym byte) ∙ sym (lane_byte r (take L lanes) c d s turn (omega (arith, full))) ∙ z c d s turn host low
