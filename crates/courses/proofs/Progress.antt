-- While a packet waits, some forward or take is accepted. Assumes nothing.
use Rattle.std.proofs.Common.{◌≡◌, ℕ, zero, suc, ◌+◌, ◌<◌, List, [], ◌∷◌, length, set, sym, refl, subst, ⊎_elim, arith}
use native.Mathlib.Decide.{dec_lt}
use Rattle.std.specs.Prelude.{All}
use Rattle.std.proofs.lemmas.List.Elements.{All-head, All-tail}
use Rattle.ranking.specs.Graphs.{Within, ChainTo}
use Rattle.ranking.proofs.RingFree.{no_long_chain}
use Rattle.courses.specs.Queues.{to, Rules, Queues, at, push}
use Rattle.courses.specs.Law.{Next, here, later, ahead, Followed, Routed, Stirs, by_forward, by_take, OnWay, Placed}
use Rattle.courses.proofs.Ways.{Way, last, on, way, Going, here_or_on, ahead_cases, same_to, not_both, follows_first}
use Rattle.courses.proofs.Sets.{some_queue}

-- the queues of a list, each with the next, are below what its queues are below
next_below : (count : ℕ) {x y : ℕ} {xs : List ℕ} → All (λ z. z < count) xs → Next x y xs → (x < count) × (y < count)
next_below count inside here = (inside 0 0 (omega arith), inside 1 0 (omega arith))
next_below count inside (later {z} {zs} n) = next_below count (All-tail (λ y. y < count) z zs inside) n

some_first : {P : Type 0} (l : List P) → 0 < length l → (p : P) × (rest : List P) × (l ≡ p ∷ rest)
some_first [] h = absurd (omega arith)
some_first (p ∷ rest) h = (p, rest, refl)

-- where a packet goes on to on its path comes right after
next_of : {P : Type 0} {rules : Rules P} {count : ℕ} {p : P} {s : ℕ} {xs : List ℕ} → Way rules count p s xs → (x y : ℕ) → 0 < ahead xs x → rules.onward x p ≡ to y → Next x y xs
next_of {rules = rules} {p = p} (last {x = s} i e) x y h leads =
    ⊎_elim (λ t. absurd (not_both (rules.onward x p) y leads (rw (sym t.0) e))) (λ t. absurd (omega (arith, t.1))) (ahead_cases s [] x)
next_of {rules = rules} {p = p} (on {x = s} {y = n} {ys} i e r c) x y h leads =
    ⊎_elim
    (λ t.
    let same : n ≡ y = same_to (rules.onward x p) n y (rw (sym t.0) e) leads in
    subst (λ a. Next a y (s ∷ ys)) t.0 (subst (λ b. Next s b (s ∷ ys)) same (follows_first c)))
    (λ t. later (next_of c x y (omega (arith, t.1)) leads))
    (ahead_cases s ys x)

module _ {P : Type 0} (rules : Rules P) (count : ℕ) (path_of : P → List ℕ) (routed : Routed rules count path_of) where
  pub way_of : (p : P) (s : ℕ) → rules.start p ≡ to s → Way rules count p s (path_of p)
  way_of p s e = way (routed.path p s e) (routed.within p s e) (routed.once p s e)

  within : Within (Followed rules path_of) count
  within x y f = next_below count (routed.within f.packet f.first f.starts) f.next

  module _ (q : Queues P) (sized : length q ≡ count) (placed : Placed rules path_of q) where
    -- the first packet of x moves, or one in the queue that follows does
    one_step : (x : ℕ) (p : P) (rest : List P) → at q x ≡ p ∷ rest → ((y : ℕ) (p' : P) (rest' : List P) → at q y ≡ p' ∷ rest' → Followed rules path_of x y → Stirs rules q) → Stirs rules q
    one_step x p rest e further =
        ⊎_elim (λ t. by_take x p (set q x rest) (record { rest = rest; first = e; ends = t.0; after = refl }))
        (λ t. onward t.0 t.1 t.2)
        (here_or_on way_here x placed_here.some_ahead)
      where
        placed_here : OnWay rules path_of x p
        placed_here = All-head (OnWay rules path_of x) p rest (subst (All (OnWay rules path_of x)) e (placed x))

        way_here : Way rules count p placed_here.first (path_of p)
        way_here = way_of p placed_here.first placed_here.starts

        onward : (y : ℕ) → rules.onward x p ≡ to y → Going count (path_of p) x y → Stirs rules q
        onward y leads going =
            elim (dec_lt (length (at q y)) (rules.room y)) [
              | yes fits ↦ by_forward x (push (set q x rest) y p) (record { packet = p; rest = rest; next = y; first = e; leads = leads; there = omega (arith, going.below, sized); fits = fits; after = refl })
              | no full ↦
                  let waits : 0 < length (at q y) = omega (arith, routed.roomy y) in
                  let f = some_first (at q y) waits in
                  further y f.0 f.1 f.2 (record { packet = p; first = placed_here.first; starts = placed_here.starts; next = next_of way_here x y placed_here.some_ahead leads })
            ]

    -- a chain of k steps of waiting packets ends in x, and with d more there would be as many steps as queues
    search_on : (d k x : ℕ) (p : P) (rest : List P) → at q x ≡ p ∷ rest → ChainTo (Followed rules path_of) k x → k + d ≡ count → Stirs rules q
    search_on zero k x p rest e chain sum =
        let all : k ≡ count = omega arith in
        absurd (no_long_chain (Followed rules path_of) count within routed.free x (omega (arith, some_queue q x p rest e, sized)) (subst (λ n. ChainTo (Followed rules path_of) n x) all chain))
    search_on (suc d) k x p rest e chain sum = one_step x p rest e (λ y p' rest' e' f. search_on d (suc k) y p' rest' e' (x, chain, f) (omega arith))

    pub alive : (x : ℕ) (p : P) (rest : List P) → at q x ≡ p ∷ rest → Stirs rules q
    alive x p rest e = search_on count 0 x p rest e tt (omega arith)
