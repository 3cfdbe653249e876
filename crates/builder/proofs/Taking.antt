-- The pairs in their order, one more at a time. Assumes nothing.
use Rattle.std.proofs.Common.{◌≡◌, ℕ, zero, suc, ◌+◌, ◌*◌, ◌<◌, ◌⊎◌, length, None, Some, Option, refl, sym, ap, ◌∙◌, subst, inl, inr, ⊎_elim, arith}
use Rattle.std.proofs.lemmas.List.{length-replicate}
use Rattle.std.proofs.lemmas.Bool.{cases_order}
use Rattle.rack.specs.declared.rack.Rack.{Rack}
use Rattle.rack.specs.Racks.{node_count, channel_count}
use Rattle.rack.proofs.Facts.{host_below}
use Rattle.routing.specs.declared.pair.Pair.{Pair}
use Rattle.routing.specs.Paths.{PairOf}
use Rattle.routing.specs.Pairs.{pair_place, NextPair}
use Rattle.routing.specs.Turns.{lane_bytes}
use Rattle.routing.proofs.PairOrder.{Taken as Before, taken_start, taken_next, taken_more, taken_end}
use Rattle.builder.specs.declared.fault.BuildFault.{BuildFault}
use Rattle.builder.specs.Method.{Tables, blank, PairBuilt, Taken, Receivers, Senders}
use Rattle.builder.specs.Outcomes.{LongEnough, NoPath, Lacks, FirstLacks}

-- tables that are all 0 are long enough
pub blank_long : (r : Rack) (t : Tables) → t ≡ blank r → LongEnough r t
blank_long r t e = (
  (let n = ap (λ (x : Tables). length x.lanes) e ∙ length-replicate (lane_bytes (channel_count r)) 0 in omega (arith, n)),
  (let n = ap (λ (x : Tables). length x.levels) e ∙ length-replicate (node_count r * node_count r) 0 in omega (arith, n)),
)

module _ (r : Rack) (route : ℕ → ℕ → Option ℕ) (count : ℕ) where
  pub lacks_path : (p : Pair) (was : Tables) (f : BuildFault) → NoPath r route p f → Lacks r route count p was f
  lacks_path p was f h = subst (Lacks r route count p was) (sym h.1) h.2

  -- the senders below u are taken, and of u the receivers below v, from tables that are all 0
  abbrev pub SoFar : Tables → ℕ → ℕ → Type 0
  SoFar now u v = (mid : Tables) × Senders r route count u (blank r) mid × Receivers r route count u v mid now

  pub row : (now : Tables) (u : ℕ) → SoFar now u (node_count r) → SoFar now (suc u) 0
  row now u h = (now, (h.0, h.1, h.2), refl)

  pub skip : (now : Tables) (u v : ℕ) → (PairOf r u v → ⊥) → SoFar now u v → SoFar now u (suc v)
  skip now u v none h = (h.0, h.1, (now, h.2, inr (none, refl)))

  -- the pairs before a place are taken
  abbrev pub TakenFrom : ℕ → Tables → Type 0
  TakenFrom from now = Before r (SoFar now) (row now) (skip now) from

  pub pairs_start : (now : Tables) → now ≡ blank r → TakenFrom 0 now
  pairs_start now e = taken_start r (SoFar now) (row now) (skip now) (blank r, refl, e)

  pub pairs_more : (from : ℕ) (p : Pair) (was now : Tables) → NextPair r from (Some p) → TakenFrom from was → PairBuilt r route count p.sender.0 p.receiver.0 was now → TakenFrom (pair_place r p.sender.0 p.receiver.0 + 1) now
  pairs_more from p was now next t built =
      let h = taken_next r (SoFar was) (row was) (skip was) from p next t in
      taken_more r (SoFar now) (row now) (skip now) p.sender.0 p.receiver.0 next.0 (h.0, h.1, (was, h.2, inl (next.0, built)))

  pub pairs_end : (from : ℕ) (now : Tables) → NextPair r from None → TakenFrom from now → Senders r route count (node_count r) (blank r) now
  pairs_end from now none t =
      let h = taken_end r (SoFar now) (row now) (skip now) from none t in
      subst (Senders r route count (node_count r) (blank r)) (sym h.2) h.1

  -- the next pair lacks something
  pub first_lacks : (from : ℕ) (p : Pair) (was : Tables) (f : BuildFault) → NextPair r from (Some p) → TakenFrom from was → Lacks r route count p was f → FirstLacks r route count f
  first_lacks from p was f next t lacks =
      let h = taken_next r (SoFar was) (row was) (skip was) from p next t in
      record {
        sender = p.sender.0;
        there = h.0;
        before = h.1;
        row = record {
          pair = p;
          here = was;
          sender = refl;
          hosts = next.0;
          before = h.2;
          lacks = lacks;
        };
      }

  -- what was taken on the way
  pub taken_on_way : (u n v : ℕ) (was now : Tables) → v < n → Receivers r route count u n was now → (mid : Tables) × ((next : Tables) × (Receivers r route count u v was mid × Taken r route count u v mid next))
  taken_on_way u zero v was now l t = absurd (omega arith)
  taken_on_way u (suc n) v was now l t =
      ⊎_elim
      (λ (e : v < n). taken_on_way u n v was t.0 e t.1)
      (λ (e : v ≡ n). (t.0, (now, (subst (λ k. Receivers r route count u k was t.0) (sym e) t.1, subst (λ k. Taken r route count u k t.0 now) (sym e) t.2))))
      (⊎_elim (λ (e : v ≡ n). inr e) (λ (d : (v < n) ⊎ (n < v)). ⊎_elim (λ (a : v < n). inl a) (λ (a : n < v). absurd (omega arith)) d) (cases_order v n))

  pub row_on_way : (n u : ℕ) (was now : Tables) → u < n → Senders r route count n was now → (mid : Tables) × ((next : Tables) × (Senders r route count u was mid × Receivers r route count u (node_count r) mid next))
  row_on_way zero u was now l t = absurd (omega arith)
  row_on_way (suc n) u was now l t =
      ⊎_elim
      (λ (e : u < n). row_on_way n u was t.0 e t.1)
      (λ (e : u ≡ n). (t.0, (now, (subst (λ k. Senders r route count k was t.0) (sym e) t.1, subst (λ k. Receivers r route count k (node_count r) t.0 now) (sym e) t.2))))
      (⊎_elim (λ (e : u ≡ n). inr e) (λ (d : (u < n) ⊎ (n < u)). ⊎_elim (λ (a : u < n). inl a) (λ (a : n < u). absurd (omega arith)) d) (cases_order u n))

  -- every pair was built on the way
  pub pair_on_way : (u v : ℕ) (was now : Tables) → PairOf r u v → Senders r route count (node_count r) was now → (mid : Tables) × ((next : Tables) × PairBuilt r route count u v mid next)
  pair_on_way u v was now pair t =
      let row = row_on_way (node_count r) u was now (host_below r u pair.0) t in
      let one = taken_on_way u (node_count r) v row.0 row.1.0 (host_below r v pair.1) row.1.1.1 in
      ⊎_elim
      (λ (h : PairOf r u v × PairBuilt r route count u v one.0 one.1.0). (one.0, (one.1.0, h.1)))
      (λ (h : (PairOf r u v → ⊥) × (one.1.0 ≡ one.0)). absurd (h.0 pair))
      one.1.1.1
