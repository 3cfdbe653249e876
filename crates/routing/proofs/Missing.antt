-- How many nodes have no way yet. Assumes nothing.
use Rattle.std.proofs.Common.{◌≡◌, ℕ, ◌<◌, true, eqb, List, refl, arith}
use Rattle.std.proofs.lemmas.Bool.{eqb-true, eq-eqb, ne_eqb}
use Rattle.routing.specs.Ways.{far}
use Rattle.ranking.proofs.Counts.{count, count_le, count_less}

-- how many nodes have no way in the column of v
unfoldable pub missing : ℕ → ℕ → List ℕ → ℕ
missing n v t = count (λ w. eqb (far n v t w) 255) n

-- not all of them, once one has a way
pub missing_few : (n v y : ℕ) (t : List ℕ) → y < n → (far n v t y ≡ 255 → ⊥) → missing n v t < n
unfolding missing
missing_few n v y t l has =
    omega (arith, count_less (λ _. true) (λ w. eqb (far n v t w) 255) n y l (λ i h e. refl) refl (ne_eqb (far n v t y) 255 has), count_le (λ _. true) n)

-- fewer than before, once one more has a way
pub missing_less : (n v y : ℕ) (old new : List ℕ) → y < n → ((w : ℕ) → w < n → far n v new w ≡ 255 → far n v old w ≡ 255) → far n v old y ≡ 255 → (far n v new y ≡ 255 → ⊥) → missing n v new < missing n v old
unfolding missing
missing_less n v y old new l keeps had has =
    count_less (λ w. eqb (far n v old w) 255) (λ w. eqb (far n v new w) 255) n y l (λ i h e. eq-eqb (far n v old i) 255 (keeps i h (eqb-true (far n v new i) 255 e))) (eq-eqb (far n v old y) 255 had) (ne_eqb (far n v new y) 255 has)
