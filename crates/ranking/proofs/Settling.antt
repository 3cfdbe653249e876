-- From round to round, and where the rounds end.
use Rattle.std.proofs.Common.{◌≡◌, ℕ, suc, ◌+◌, ◌<◌, ◌≤◌, leb, List, get_or, refl, sym, ◌-◌, subst, add-one, arith, le-leb, leb-true}
use borrow.Author.Tests.{lt-leb}
use native.Mathlib.Decide.{ℕ_discrete}
use Rattle.ranking.specs.Graphs.{Within, ChainTo, IsRank, Ranked, SameFrom}
use Rattle.ranking.specs.Workings.{Level, Turned, Stuck}
use Rattle.ranking.proofs.Chains.{chain_most, no_ring_from_rise}
use Rattle.ranking.proofs.Counts.{count, count_less, count_le, at_least}

-- as round r begins
pub record Going (f : ℕ → ℕ → Type 0) (n r : ℕ) (t : List ℕ) : Type 0 where
  pub level : Level f n r t
  pub top : 0 < n → (y : ℕ) × (y < n) × (get_or t y 0 ≡ r)
  pub room : r + at_least r n t ≤ n

module _ (f : ℕ → ℕ → Type 0) (n : ℕ) (within : Within f n) where
  level_zero : (t : List ℕ) → ((y : ℕ) → y < n → get_or t y 0 ≡ 0) → Level f n 0 t
  level_zero t z =
      record {
        low = λ y l. omega (arith, z y l);
        reached = λ y l. subst (λ k. ChainTo f k y) (sym (z y l)) tt;
        final = λ y l h. absurd (omega arith);
      }

  pub going_start : (t : List ℕ) → ((y : ℕ) → y < n → get_or t y 0 ≡ 0) → Going f n 0 t
  unfolding at_least
  going_start t z =
      record {
        level = level_zero t z;
        top = λ h. (0, h, z 0 h);
        room = omega (arith, count_le (λ z. leb 0 (get_or t z 0)) n);
      }

  -- fewer are left after a round that ranked y
  fewer : (r : ℕ) (s t : List ℕ) (y : ℕ) → Turned f n r s t → y < n → get_or t y 0 ≡ r → at_least (r + 1) n t < at_least r n s
  unfolding at_least
  fewer r s t y m l e =
      count_less (λ z. leb r (get_or s z 0)) (λ z. leb (r + 1) (get_or t z 0)) n y l
      (λ i k h. le-leb r (get_or s i 0) (m.kept i k (omega (arith, leb-true (r + 1) (get_or t i 0) h))))
      (le-leb r (get_or s y 0) (m.kept y l (omega arith)))
      (lt-leb (r + 1) (get_or t y 0) (omega arith))

  pub going_on : (r : ℕ) (s t : List ℕ) (y z : ℕ) → Going f n r s → Turned f n r s t → y < n → get_or t y 0 ≡ r + 1 → z < n → get_or t z 0 ≡ r → Going f n (r + 1) t
  going_on r s t y z v m yl there zl ze =
      record {
        level = let P : ℕ → Type 0 = λ k. Level f n k t in subst P (sym (add-one r)) m.level;
        top = λ h. (y, yl, there);
        room = let a = fewer r s t z m zl ze in let b = v.room in omega arith;
      }

  -- no point is left: each is ranked
  pub ranked : (r : ℕ) (o s t : List ℕ) → r < n → Going f n r s → Turned f n r s t → ((y : ℕ) → y < n → get_or t y 0 ≡ r + 1 → ⊥) → SameFrom n o t → Ranked f n r o t
  ranked r o s t rn v m over past =
      record {
        free = no_ring_from_rise f (λ y. get_or t y 0) (λ x y h. let w = within x y h in (at y w.1).longest (suc (get_or t x 0)) (x, m.level.reached x w.0, h));
        ranks = at;
        most = λ y l. let h = below y l in omega arith;
        peak = λ h. let p = v.top h in (p.0, p.1, (let a = m.grown p.0 p.1 in let b = below p.0 p.1 in let e = p.2 in omega arith));
        none = λ e. absurd (omega arith);
        rest = past;
      }
    where
      below : (y : ℕ) → y < n → get_or t y 0 < suc r
      below y l = let a = over y l in let b = m.level.low y l in omega arith

      at : (y : ℕ) → y < n → IsRank f y (get_or t y 0)
      at y l = record { reached = m.level.reached y l; longest = chain_most f (get_or t y 0) y (m.level.final y l (below y l)) }

  -- none was ranked in round r, and y is left
  pub stuck : (r : ℕ) (s t : List ℕ) (y : ℕ) → r < n → Turned f n r s t → y < n → get_or t y 0 ≡ r + 1 → ((z : ℕ) → z < n → get_or t z 0 ≡ r → ⊥) → Stuck f n (r + 1) t
  stuck r s t y rn m l there none =
      record {
        some = (y, l, there);
        small = omega arith;
        low = λ z k. omega (arith, m.level.low z k);
        fed = λ z k h. let p = m.fed z k (omega arith) in (p.0, p.1, (let a = none p.0 p.1 in let b = p.2 in omega arith), p.3);
      }

  -- after n rounds, each of which ranked a point, there is no point
  none_left : (r : ℕ) (t : List ℕ) → n ≤ r → Going f n r t → n ≡ 0
  unfolding at_least
  none_left r t nr v = go (ℕ_discrete n 0)
    where
      go : Dec (n ≡ 0) → n ≡ 0
      go (yes e) = e
      go (no ne) =
          let p = v.top (omega arith) in
          let a : count (λ z. leb (suc r) 0) n < count (λ z. leb r (get_or t z 0)) n =
          count_less (λ z. leb r (get_or t z 0)) (λ z. leb (suc r) 0) n p.0 p.1
          (λ i k g. absurd (omega (arith, leb-true (suc r) 0 g)))
          (let e = p.2 in le-leb r (get_or t p.0 0) (omega arith))
          (lt-leb (suc r) 0 (omega arith)) in
          omega (arith, v.room)

  -- and so each is ranked
  pub ranked_none : (r : ℕ) (o t : List ℕ) → n ≤ r → Going f n r t → SameFrom n o t → Ranked f n 0 o t
  ranked_none r o t nr v past =
      let e = none_left r t nr v in
      record {
        free = λ at len o. omega (arith, (within (at (len - 1)) (at 0) o.closes).1);
        ranks = λ y l. absurd (omega arith);
        most = λ y l. absurd (omega arith);
        peak = λ h. absurd (omega arith);
        none = λ e. refl;
        rest = past;
      }
