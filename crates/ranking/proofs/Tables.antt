-- The first places of a table, and those past them.
use Rattle.std.proofs.Common.{◌≡◌, ℕ, ◌<◌, ◌≤◌, List, ◌++◌, length, take, drop, get_or, sym, ◌∙◌, arith, rules}
use Rattle.std.proofs.lemmas.List.{places, get_or_append_left, get_or_past}
use native.Mathlib.Decide.{dec_lt}
use Rattle.ranking.specs.Graphs.{SameFrom}

-- past the end of both tables there is nothing
pub same_past : (n : ℕ) (s t : List ℕ) → length s ≡ n → length t ≡ n → SameFrom n s t
same_past n s t a b i l = get_or_past t i 0 (omega arith) ∙ sym (get_or_past s i 0 (omega arith))

-- the first n places of s became t
module _ (n : ℕ) (s t : List ℕ) (room : n ≤ length s) (cut : length t ≡ n) where
  pub below : (y : ℕ) → y < n → get_or (t ++ drop n s) y 0 ≡ get_or t y 0
  below y l = get_or_append_left t (drop n s) 0 y (omega arith)

  pub beyond : SameFrom n s (t ++ drop n s)
  beyond i l = search (rules, places)

  -- what the first places held from k on they hold still
  pub same_whole : (k : ℕ) → SameFrom k (take n s) t → SameFrom k s (t ++ drop n s)
  same_whole k a i l = go (dec_lt i n)
    where
      go : Dec (i < n) → get_or (t ++ drop n s) i 0 ≡ get_or s i 0
      go (yes h) = let e = a i l in search (rules, places)
      go (no h) = beyond i (omega arith)
