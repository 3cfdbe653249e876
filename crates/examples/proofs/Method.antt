-- The method of the builder, computed on written tables. Assumes nothing.
use Rattle.std.proofs.Common.{ℕ, zero, suc, ◌+◌, ◌-◌, ◌*◌, Bool, true, false, not, ◌&&◌, ◌||◌, cond, min, List, [], ◌∷◌, length, slice_index}
use Rattle.std.specs.Prelude.{nat_lt, nat_le, ◌==◌}
use Rattle.rack.specs.declared.cable.Cable.{Cable}
use Rattle.rack.specs.Network.{channels, tail_end}
use Rattle.routing.specs.Turns.{row_start, lane_bytes}
use Rattle.routing.specs.Paths.{Hop}
use Rattle.examples.proofs.Nets.{Net, turns_at}
use Rattle.examples.proofs.Walks.{all_below}
use Rattle.examples.proofs.Fine.{fine, path_in}
use Rattle.examples.proofs.Sheets.{val, inside, put}

abbrev pub chans : List Hop → List ℕ
chans [] = []
chans (h ∷ hs) = h.channel ∷ chans hs

-- what the two tables hold, and whether all went well
pub record Sheet : Type 0 where
  pub lanes : List (ℕ × ℕ)
  pub levels : List (ℕ × ℕ)
  pub ok : Bool

abbrev pub empty : Sheet
empty = record { lanes = []; levels = []; ok = true }

-- what the method goes by: the tables of the rack, the net of the source alone, whose paths have at most so many hops, and the lane count
pub record Task : Type 0 where
  pub nodes : List ℕ
  pub cables : List Cable
  pub net : Net
  pub fuel : ℕ
  pub count : ℕ

module _ (k : Task) where
  abbrev pub way : ℕ → ℕ → List ℕ
  way u v = chans (path_in k.net k.fuel u v)

  -- the byte of middle turn j at level s, and what it holds
  abbrev pub byte : List ℕ → ℕ → ℕ → ℕ
  byte path s j = row_start (slice_index path j) (tail_end k.cables (slice_index path (j + 1))).port.0 + s

  abbrev pub entry : List (ℕ × ℕ) → List ℕ → ℕ → ℕ → ℕ
  entry ws path s j =
      cond (turns_at k.nodes k.cables (slice_index path j) (slice_index path (j + 1)))
      (cond (nat_le (row_start (slice_index path j) (tail_end k.cables (slice_index path (j + 1))).port.0 + 16) (lane_bytes (channels k.cables))) (min (val ws (byte path s j)) 7) 0)
      0

  -- the path fits at the level; one of its middle turns below n does not
  abbrev pub fits : List (ℕ × ℕ) → List ℕ → ℕ → Bool
  fits ws path s = all_below (length path - 2) (λ j. j == 0 || (entry ws path s j == 0 || entry ws path s j == j))

  abbrev pub misfit : List (ℕ × ℕ) → List ℕ → ℕ → ℕ → Bool
  misfit ws path s zero = false
  misfit ws path s (suc n) = (not (n == 0) && (not (entry ws path s n == 0) && not (entry ws path s n == n))) || misfit ws path s n

  abbrev pub lowest : List (ℕ × ℕ) → List ℕ → ℕ → ℕ → ℕ
  lowest ws path s zero = s
  lowest ws path s (suc n) = cond (fits ws path s) s (lowest ws path (s + 1) n)

  -- the middle turns below n claim their bytes
  abbrev pub claim : List ℕ → ℕ → ℕ → List (ℕ × ℕ) → List (ℕ × ℕ)
  claim path s n ws = cond (n == 0) ws (put ws (byte path s n) n)

  abbrev pub claims : List (ℕ × ℕ) → List ℕ → ℕ → ℕ → List (ℕ × ℕ)
  claims ws path s zero = ws
  claims ws path s (suc n) = claim path s n (claims ws path s n)

  abbrev pub claimed : List (ℕ × ℕ) → List ℕ → ℕ → List (ℕ × ℕ)
  claimed ws path s = claims ws path s (length path - 2)

  -- the pair has a path, for which there are lanes enough; the level is the lowest at which it fits; its bytes are in the table and hold its lanes
  abbrev pub walks : ℕ → ℕ → Bool
  walks u v = fine k.cables k.net k.fuel 1 u v && nat_le (length (way u v)) (channels k.cables)

  abbrev pub settles : List ℕ → ℕ → List (ℕ × ℕ) → Bool
  settles path s ws = nat_lt s 16 && (fits ws path s && all_below s (λ t. misfit ws path t (length path - 2)))

  abbrev pub given : List ℕ → ℕ → List (ℕ × ℕ) → Bool
  given path s ws =
      inside (lane_bytes (channels k.cables)) ws && (inside (lane_bytes (channels k.cables)) (claimed ws path s) && all_below (length path - 2) (λ j. j == 0 || val (claimed ws path s) (byte path s j) == j))

  abbrev pub places : ℕ → ℕ → Sheet → ℕ → Bool
  places u v t s =
      (nat_le (length (way u v)) (k.count + 2) && inside (length k.nodes * length k.nodes) t.levels) && (settles (way u v) s t.lanes && given (way u v) s t.lanes)

  abbrev pub placed : ℕ → ℕ → Sheet → ℕ → Sheet
  placed u v t s =
      record {
        lanes = claimed t.lanes (way u v) s;
        levels = put t.levels (length k.nodes * u + v) s;
        ok = t.ok && (walks u v && places u v t s);
      }

  abbrev pub is_pair : ℕ → ℕ → Bool
  is_pair u v = slice_index k.nodes u == 1 && (slice_index k.nodes v == 1 && not (u == v))

  abbrev pub take_if : Bool → ℕ → ℕ → Sheet → Sheet
  take_if true u v t = placed u v t (lowest t.lanes (way u v) 0 16)
  take_if false u v t = t

  abbrev pub take_one : ℕ → ℕ → Sheet → Sheet
  take_one u v t = take_if (is_pair u v) u v t

  abbrev pub take_row : ℕ → ℕ → Sheet → Sheet
  take_row u zero t = t
  take_row u (suc v) t = take_one u v (take_row u v t)

  abbrev pub take_all_of : ℕ → Sheet → Sheet
  take_all_of zero t = t
  take_all_of (suc u) t = take_row u (length k.nodes) (take_all_of u t)
