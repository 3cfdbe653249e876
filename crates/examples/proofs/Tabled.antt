-- What a plan reads in tables whose needed places are written out. Assumes nothing.
use Rattle.std.proofs.Common.{◌≡◌, ℕ, ◌+◌, ◌*◌, ◌<◌, ◌≤◌, true, min, List, length, take, slice_index, sym, ap, ◌∙◌, subst, arith, le-leb}
use Rattle.std.proofs.lemmas.Bool.{cond-true}
use Rattle.std.proofs.lemmas.Nat.{mul-add-lt}
use Rattle.std.proofs.lemmas.List.{length-take, get_or-take}
use Rattle.rack.specs.declared.rack.Rack.{Rack}
use Rattle.rack.specs.Network.{channels, tail_end}
use Rattle.rack.specs.Racks.{node_count, channel_count, tail_port}
use Rattle.rack.proofs.Facts.{host_below}
use Rattle.routing.specs.Turns.{turns, row_start, stored_lane, lane_bytes}
use Rattle.routing.specs.Paths.{PairOf}
use Rattle.checking.specs.Plans.{level_at}
use Rattle.builder.specs.Method.{Tables, tables}
use Rattle.builder.specs.Outcomes.{needed}
use Rattle.builder.proofs.Rows.{row_inside}
use Rattle.examples.specs.Builds.{zeros_but, blank_but}
use Rattle.examples.proofs.Fine.{Laid}
use Rattle.examples.proofs.Sheets.{val, inside, as_long, val_is}

module _ (n : ℕ) (table : List ℕ) (ws : List (ℕ × ℕ)) (e : take n table ≡ zeros_but n ws) where
  pub held : inside n ws ≡ true → (k : ℕ) → k < n → slice_index table k ≡ val ws k
  held within k l = sym (get_or-take n table k 0 l) ∙ ap (λ xs. slice_index xs k) e ∙ val_is n ws within k

  pub long : n ≤ length table
  long = let l : min n (length table) ≡ n = sym (length-take n table) ∙ ap length e ∙ as_long n ws in omega arith

module _ (r : Rack) (laid : Laid r) (lanes levels : List ℕ) (ws ls : List (ℕ × ℕ)) (e : needed r (tables lanes levels) ≡ blank_but r ws ls) where
  pub lane_is : inside (lane_bytes (channels laid.cables)) ws ≡ true → (c d : ℕ) → turns r c d ≡ true → stored_lane r lanes c d 0 ≡ min (val ws (row_start c (tail_end laid.cables d).port.0 + 0)) 7
  lane_is within c d t =
      let size = lane_bytes (channel_count r) in
      let bytes : size ≡ lane_bytes (channels laid.cables) = ap (λ xs. lane_bytes (channels xs)) laid.same_cables in
      let same : take size lanes ≡ zeros_but size ws = ap (λ (x : Tables). x.lanes) e in
      let enough : size ≤ length lanes = long size lanes ws same in
      let full : length (zeros_but size ws) ≡ size = as_long size ws in
      let room : row_start c (tail_port r d) + 16 ≤ length (zeros_but size ws) = row_inside r (zeros_but size ws) c d t (omega arith) in
      let room_here : row_start c (tail_port r d) + 16 ≤ length lanes = omega arith in
      let here : slice_index lanes (row_start c (tail_port r d) + 0) ≡ val ws (row_start c (tail_port r d) + 0) =
      held size lanes ws same (subst (λ n. inside n ws ≡ true) (sym bytes) within) (row_start c (tail_port r d) + 0) (omega arith) in
      cond-true _ _ _ t ∙ cond-true _ _ _ (le-leb _ _ room_here) ∙ ap (λ x. min x 7) here ∙ ap (λ xs. min (val ws (row_start c (tail_end xs d).port.0 + 0)) 7) laid.same_cables

  pub level_is : inside (length laid.nodes * length laid.nodes) ls ≡ true → (u v : ℕ) → PairOf r u v → level_at r levels u v ≡ val ls (length laid.nodes * u + v)
  level_is within u v pair =
      let n = node_count r in
      let nodes : n ≡ length laid.nodes = ap length laid.same_nodes in
      let same : take (n * n) levels ≡ zeros_but (n * n) ls = ap (λ (x : Tables). x.levels) e in
      let low : n * u + v < n * n = omega (arith, mul-add-lt u n v n (host_below r u pair.0) (host_below r v pair.1)) in
      held (n * n) levels ls same (subst (λ k. inside (k * k) ls ≡ true) (sym nodes) within) (n * u + v) low ∙ ap (λ k. val ls (k * u + v)) nodes
