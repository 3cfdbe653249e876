-- The triangle, and how the examples plan it. Assumes nothing.
use Rattle.std.proofs.Common.{◌≡◌, ℕ, ◌+◌, Bool, true, false, cond, min, List, [], ◌∷◌, length, ◌≢◌, slice_index, refl, ap, ◌∙◌, arith}
use Rattle.std.specs.Prelude.{nat_le}
use Rattle.rack.specs.declared.rack.Rack.{Rack}
use Rattle.rack.specs.Network.{channels, tail_end}
use Rattle.rack.specs.Racks.{channel_count, tail_port}
use Rattle.example_racks.specs.Tables.{triangle_nodes, triangle_cables}
use Rattle.example_racks.specs.declared.TheConstants.{CLOCKWISE}
use Rattle.routing.specs.Turns.{turns, row_start, stored_lane, two_hop}
use Rattle.routing.specs.Paths.{routing, PairOf}
use Rattle.routing.specs.Sources.{stored_route}
use Rattle.checking.specs.Plans.{level_at}
use Rattle.builder.specs.Method.{alone, tables}
use Rattle.builder.specs.Outcomes.{needed}
use Rattle.examples.specs.Racks.{Triangle, AllZero, stored_rows, stored_two_hop}
use Rattle.examples.specs.Triangles.{two_lane_tables}
use Rattle.examples.proofs.Nets.{Net, IsNet, enters_at, turns_at, route_at, two_hop_at, enters_same, turns_same, route_same, two_hop_same}
use Rattle.examples.proofs.Fine.{Laid}
use Rattle.examples.proofs.Sheets.{val}
use Rattle.examples.proofs.Tabled.{lane_is}

-- the net of the triangle over a forwarding table
abbrev pub triangle_net : List ℕ → (ℕ → ℕ → ℕ) → Net
triangle_net forwarding lane =
    record { enters = enters_at triangle_nodes triangle_cables; turning = turns_at triangle_nodes triangle_cables; next = route_at triangle_nodes triangle_cables forwarding; lane = lane }

abbrev pub laid : (r : Rack) → Triangle r → Laid r
laid r t = record { nodes = triangle_nodes; cables = triangle_cables; hosts = 3; same_nodes = t.0; same_cables = t.1; first = refl }

pub is_net :
    (r : Rack) (t : Triangle r) (forwarding : List ℕ) (map : ℕ → ℕ → ℕ → ℕ) (lane : ℕ → ℕ → ℕ) → ((c d : ℕ) → turns r c d ≡ true → map c d 0 ≡ lane c d) →
    IsNet (routing r (stored_route r forwarding) map) 0 (triangle_net forwarding lane)
is_net r t forwarding map lane same =
    let turning = turns_same r triangle_nodes triangle_cables t.0 t.1 in
    record {
      enters = enters_same r triangle_nodes triangle_cables t.0 t.1;
      turning = turning;
      next = route_same r triangle_nodes triangle_cables t.0 t.1 forwarding;
      lane = λ c d turn. same c d (turning c d ∙ turn);
    }

-- two different hosts are a pair
pub pair_in : (r : Rack) → Triangle r → (u v : ℕ) → slice_index triangle_nodes u ≡ 1 → slice_index triangle_nodes v ≡ 1 → u ≢ v → PairOf r u v
pair_in r t u v a b ne = (ap (λ xs. slice_index xs u) t.0 ∙ a, ap (λ xs. slice_index xs v) t.0 ∙ b, ne)

pub pair02 : (r : Rack) → Triangle r → PairOf r 0 2
pair02 r t = pair_in r t 0 2 refl refl (omega arith)

pub channels12 : (r : Rack) → Triangle r → channel_count r ≡ 12
channels12 r t = ap channels t.1

pub flat : (r : Rack) (levels : List ℕ) → AllZero levels → (u v : ℕ) → PairOf r u v → level_at r levels u v ≡ 0
flat r levels z u v _ = z _

-- under the two-hop map
abbrev pub raised : Net
raised = triangle_net CLOCKWISE (two_hop_at triangle_nodes triangle_cables)

pub is_raised : (r : Rack) → Triangle r → IsNet (stored_two_hop r CLOCKWISE) 0 raised
is_raised r t = is_net r t CLOCKWISE (two_hop r) (two_hop_at triangle_nodes triangle_cables) (λ c d _. two_hop_same r triangle_nodes triangle_cables t.0 t.1 c d 0)

-- a lane table that is all 0 gives lane 0
zero_lane : (r : Rack) (lanes : List ℕ) → AllZero lanes → (c d s : ℕ) → stored_lane r lanes c d s ≡ 0
zero_lane r lanes z c d s = both_zero (turns r c d) (nat_le (row_start c (tail_port r d) + 16) (length lanes)) (slice_index lanes (row_start c (tail_port r d) + s)) (z (row_start c (tail_port r d) + s))
  where
    both_zero : (a b : Bool) (x : ℕ) → x ≡ 0 → cond a (cond b (min x 7) 0) 0 ≡ 0
    both_zero true true x e = omega arith
    both_zero true false x e = refl
    both_zero false b x e = refl

-- on lane 0
abbrev pub on_zero : List ℕ → Net
on_zero forwarding = triangle_net forwarding (λ _ _. 0)

pub is_zero : (r : Rack) (forwarding lanes : List ℕ) → Triangle r → AllZero lanes → IsNet (stored_rows r forwarding lanes) 0 (on_zero forwarding)
is_zero r forwarding lanes t z = is_net r t forwarding (stored_lane r lanes) (λ _ _. 0) (λ c d _. zero_lane r lanes z c d 0)

pub is_alone : (r : Rack) (forwarding : List ℕ) → Triangle r → IsNet (alone r (stored_route r forwarding)) 0 (on_zero forwarding)
is_alone r forwarding t = is_net r t forwarding (λ _ _ _. 0) (λ _ _. 0) (λ c d _. refl)

-- by the lane table that is built with two lanes
abbrev pub written : List (ℕ × ℕ)
written = (row_start 6 3, 1) ∷ (row_start 8 3, 1) ∷ (row_start 10 2, 1) ∷ []

abbrev pub lane_parted : ℕ → ℕ → ℕ
lane_parted c d = min (val written (row_start c (tail_end triangle_cables d).port.0 + 0)) 7

abbrev pub parted : Net
parted = triangle_net CLOCKWISE lane_parted

pub is_parted : (r : Rack) (lanes levels : List ℕ) → Triangle r → needed r (tables lanes levels) ≡ two_lane_tables r → IsNet (stored_rows r CLOCKWISE lanes) 0 parted
is_parted r lanes levels t e = is_net r t CLOCKWISE (stored_lane r lanes) lane_parted (lane_is r (laid r t) lanes levels written [] e refl)
