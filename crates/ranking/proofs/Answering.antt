-- What the answers of `rank` say: of whole tables, from what they say of the tables cut to the points.
use Rattle.std.proofs.Common.{◌≡◌, ℕ, true, ◌+◌, ◌-◌, ◌<◌, ◌≤◌, ◌↔◌, is_ok, List, ◌++◌, length, take, drop, get_or, Ok, Err, Result, sym, refl, ◌∙◌, subst, ⊎_elim, arith, rules}
use Rattle.std.proofs.lemmas.List.{places}
use Rattle.ranking.specs.declared.faults.RankFault.{RankFault}
use Rattle.ranking.specs.declared.faults.RankFault.TheVariants.{Tables, Ring}
use Rattle.ranking.specs.Graphs.{Within, IsRank, NoRing, HaveRanks, Room, Short, Ranked, Ringed, Answered}
use Rattle.ranking.proofs.Tables.{below, beyond, same_whole}
use Rattle.ranking.proofs.Chains.{no_ring_from_ranks}

-- the first n places of s became t
module _ (n : ℕ) (s t : List ℕ) (room : n ≤ length s) (cut : length t ≡ n) where
  ranked_whole : (f : ℕ → ℕ → Type 0) (top : ℕ) → Ranked f n top (take n s) t → Ranked f n top s (t ++ drop n s)
  ranked_whole f top k =
      record {
        free = k.free;
        ranks = λ y l. subst (λ r. IsRank f y r) (sym (below n s t room cut y l)) (k.ranks y l);
        most = λ y l. omega (arith, k.most y l, below n s t room cut y l);
        peak = λ h. let p = k.peak h in (p.0, p.1, below n s t room cut p.0 p.1 ∙ p.2);
        none = k.none;
        rest = beyond n s t room cut;
      }

module _ (f : ℕ → ℕ → Type 0) (n : ℕ) (s t u v : List ℕ) (room : Room n s u) (ranks_cut : length t ≡ n) (ring_cut : length v ≡ n) where
  ringed_whole : (len : ℕ) → Ringed f n len (take n s) t (take n u) v → Ringed f n len s (t ++ drop n s) u (v ++ drop n u)
  ringed_whole len k =
      record {
        ring = record {
          some = k.ring.some;
          steps = λ i l. subst (λ x. f x (at (i + 1))) (same i (omega arith)) (subst (λ y. f (get_or v i 0) y) (same (i + 1) l) (k.ring.steps i l));
          closes = let some = k.ring.some in subst (λ x. f x (at 0)) (same (len - 1) (omega arith)) (subst (λ y. f (get_or v (len - 1) 0) y) (same 0 some) k.ring.closes);
          apart = λ i j il jl e. k.ring.apart i j il jl (same i il ∙ e ∙ sym (same j jl));
        };
        short = k.short;
        ring_rest = same_whole n u v room.1 ring_cut len k.ring_rest;
        zeros = λ y l. below n s t room.0 ranks_cut y l ∙ k.zeros y l;
        rest = beyond n s t room.0 ranks_cut;
      }
    where
      at : ℕ → ℕ
      at i = get_or (v ++ drop n u) i 0

      same : (i : ℕ) → i < len → get_or v i 0 ≡ at i
      same i l = sym (below n u v room.1 ring_cut i (omega (arith, k.short)))

  pub answered_whole : (r : Result ℕ RankFault) → Answered f n (take n s) t (take n u) v r → Answered f n s (t ++ drop n s) u (v ++ drop n u) r
  answered_whole (Ok top) a = (room, ranked_whole n s t room.0 ranks_cut f top a.1, (let e = a.2 in search (rules, places)))
  answered_whole (Err Tables) a = absurd (⊎_elim (λ l. search (rules, places)) (λ l. search (rules, places)) a.0)
  answered_whole (Err (Ring len)) a = (room, ringed_whole len a.1)

module _ (f : ℕ → ℕ → Type 0) (n : ℕ) (s t u v : List ℕ) (room : Room n s u) where
  not_short : Short n s u → ⊥
  not_short h = ⊎_elim (λ l. omega arith) (λ l. omega arith) h

  -- ranks are answered if and only if there is no ring
  pub ok_iff_no_ring : (r : Result ℕ RankFault) → Answered f n s t u v r → is_ok r ≡ true ↔ NoRing f
  ok_iff_no_ring (Ok top) a = (λ e. a.1.free, λ free. refl)
  ok_iff_no_ring (Err Tables) a = absurd (not_short a.0)
  ok_iff_no_ring (Err (Ring len)) a = (λ e. absurd (let z : ◌≡◌ {A = ℕ} 0 1 = cc in omega arith), λ free. absurd (free _ len a.1.ring))

  -- ranks exist if and only if there is no ring
  pub ranks_iff_no_ring : Within f n → (r : Result ℕ RankFault) → Answered f n s t u v r → HaveRanks f n ↔ NoRing f
  ranks_iff_no_ring within (Ok top) a = (no_ring_from_ranks f n within, λ free y l. (get_or t y 0, a.1.ranks y l))
  ranks_iff_no_ring within (Err Tables) a = absurd (not_short a.0)
  ranks_iff_no_ring within (Err (Ring len)) a = (no_ring_from_ranks f n within, λ free. absurd (free _ len a.1.ring))
