-- The distances of the line, and how it forwards downhill. Assumes nothing.
use Rattle.std.proofs.Common.{◌≡◌, ℕ, zero, suc, ◌+◌, ◌-◌, ◌*◌, ◌<◌, ◌≤◌, Bool, true, false, not, ◌&&◌, ◌||◌, cond, List, [], ◌∷◌, length, slice_index, Some, None, Option, sym, refl, ap, ◌∙◌, subst, ⊎_elim, arith, ltb-true, eqb-true, eq-eqb}
use Rattle.std.specs.Prelude.{nat_lt, nat_le, ◌==◌}
use Rattle.std.proofs.lemmas.Bool.{true≢false, or_cases, leb-true, cases_Bool, cases_eq, and_parts}
use Rattle.std.proofs.lemmas.Nat.{mul-add-lt}
use Rattle.std.proofs.lemmas.Grind.{get_or_default_zero}
use Rattle.rack.specs.declared.rack.Rack.{Rack}
use Rattle.rack.specs.Network.{channels, tail_end, head_end}
use Rattle.rack.specs.Racks.{node_count, channel_count, tail, head, Host, Switch, Leaving}
use Rattle.rack.proofs.Facts.{host_below}
use Rattle.example_racks.specs.Tables.{line_nodes, line_cables}
use Rattle.routing.specs.Sources.{enters_switch, is_end, told, one_nearer, least, downhill_route}
use Rattle.routing.specs.Ways.{Way, Fewest}
use Rattle.examples.specs.Racks.{Line, TrueDistances}
use Rattle.examples.proofs.Nets.{enters_at, enters_same}
use Rattle.examples.proofs.Walks.{all_below, from_below, implied}

-- the distance from node w to host v
abbrev pub line_distances : List ℕ
line_distances =
    0 ∷ 3 ∷ 4 ∷ 5 ∷ 3 ∷ 0 ∷ 3 ∷ 4 ∷ 4 ∷ 3 ∷ 0 ∷ 3 ∷ 5 ∷ 4 ∷ 3 ∷ 0 ∷ 1 ∷ 2 ∷ 3 ∷ 4 ∷ 2 ∷ 1 ∷ 2 ∷ 3 ∷ 3 ∷ 2 ∷ 1 ∷ 2 ∷ 4 ∷ 3 ∷ 2 ∷ 1 ∷ []

abbrev pub far : ℕ → ℕ → ℕ
far w v = slice_index line_distances (4 * w + v)

-- where a channel comes from and goes to
abbrev pub from_node : ℕ → ℕ
from_node c = (tail_end line_cables c).node.0

abbrev pub to_node : ℕ → ℕ
to_node c = (head_end line_cables c).node.0

-- the channel that goes nearer from node w to host v
abbrev onward : ℕ → ℕ → ℕ
onward w v = cond (nat_lt w 4) (2 * w) (cond (w - 4 == v) (2 * v + 1) (cond (nat_lt (w - 4) v) (8 + 2 * (w - 4)) (7 + 2 * (w - 4))))

abbrev is_switch : ℕ → Bool
is_switch w = slice_index line_nodes w == 2

-- going on as told, host v is reached after k channels
abbrev arrives : ℕ → ℕ → ℕ → Bool
arrives v zero w = w == v
arrives v (suc k) w =
    nat_lt (onward w v) 14 && (from_node (onward w v) == w && ((k == 0 || is_switch (to_node (onward w v))) && arrives v k (to_node (onward w v))))

all_arrive : all_below 8 (λ w. all_below 4 (λ v. arrives v (far w v) w)) ≡ true
all_arrive = refl

-- channel c, to host v or to a switch, leads nearer by no more than one
abbrev steps_home : ℕ → ℕ → Bool
steps_home c v = not (to_node c == v) || nat_le (far (from_node c) v) 1

abbrev steps_on : ℕ → ℕ → Bool
steps_on c v = not (is_switch (to_node c)) || nat_le (far (from_node c) v) (far (to_node c) v + 1)

no_leap : all_below 14 (λ c. all_below 4 (λ v. steps_home c v && steps_on c v)) ≡ true
no_leap = refl

heads_low : all_below 14 (λ c. nat_lt (to_node c) 8) ≡ true
heads_low = refl

none_here : all_below 4 (λ v. far v v == 0) ≡ true
none_here = refl

hosts_low : all_below 8 (λ v. not (slice_index line_nodes v == 1) || nat_lt v 4) ≡ true
hosts_low = refl

small : all_below 8 (λ w. all_below 4 (λ v. nat_lt (far w v) 255)) ≡ true
small = refl

-- what goes downhill, over the written distances
abbrev pub nearer_at : ℕ → ℕ → ℕ → Bool
nearer_at w v d = from_node d == w && far (to_node d) v + 1 == far w v

abbrev pub down_at : ℕ → ℕ → Option ℕ
down_at c v =
    cond (enters_at line_nodes line_cables c && (slice_index line_nodes v == 1 && not (far (to_node c) v == 255))) (least (nearer_at (to_node c) v) 0 14) None

none_if : (a b x y : Bool) (p q : Option ℕ) → a && b ≡ false → cond (a && (b && x)) p None ≡ cond (a && (b && y)) q None
none_if true true x y p q e = absurd (true≢false e)
none_if true false x y p q e = refl
none_if false b x y p q e = refl

least_same : (p q : ℕ → Bool) (k n : ℕ) → ((d : ℕ) → d < k + n → p d ≡ q d) → least p k n ≡ least q k n
least_same p q k zero e = refl
least_same p q k (suc n) e =
    let first : p k ≡ q k = e k (omega arith) in
    let rest : least p (k + 1) n ≡ least q (k + 1) n = least_same p q (k + 1) n (λ d l. e d (omega arith)) in
    λ i. cond (first i) (Some k) (rest i)

low_node : (v : ℕ) → slice_index line_nodes v ≡ 1 → v < 8 → v < 4
low_node v e l = ltb-true v 4 (implied (slice_index line_nodes v == 1) (nat_lt v 4) (from_below 8 (λ v. not (slice_index line_nodes v == 1) || nat_lt v 4) hosts_low v l) (eq-eqb _ 1 e))

module _ (r : Rack) (t : Line r) where
  count14 : channel_count r ≡ 14
  count14 = ap channels t.1

  head_is : (c : ℕ) → head r c ≡ to_node c
  head_is c = ap (λ xs. (head_end xs c).node.0) t.1

  tail_is : (c : ℕ) → tail r c ≡ from_node c
  tail_is c = ap (λ xs. (tail_end xs c).node.0) t.1

  switch_is : (w : ℕ) → is_switch w ≡ true → Switch r w
  switch_is w e = ap (λ xs. slice_index xs w) t.0 ∙ eqb-true _ 2 e

  way_from : (v k w : ℕ) → arrives v k w ≡ true → Way r v k w
  way_from v zero w e = eqb-true w v e
  way_from v (suc k) w e =
      let c = onward w v in
      let a = and_parts (nat_lt c 14) _ e in
      let b = and_parts (from_node c == w) _ a.1 in
      let d = and_parts (k == 0 || is_switch (to_node c)) _ b.1 in
      let low = ltb-true c 14 a.0 in
      let count = count14 in (
        c,
        (omega arith, tail_is c ∙ eqb-true _ w b.0),
        (λ some.
            ⊎_elim
            (λ (z : k == 0 ≡ true). absurd (omega (arith, some, eqb-true k 0 z)))
            (λ (z : is_switch (to_node c) ≡ true). subst (Switch r) (sym (head_is c)) (switch_is _ z))
            (or_cases _ _ d.0)),
        subst (Way r v k) (sym (head_is c)) (way_from v k (to_node c) d.1),
      )

  at_least : (v : ℕ) → v < 4 → (k w : ℕ) → Way r v k w → far w v ≤ k
  at_least v l zero w way = let z : far v v ≡ 0 = eqb-true _ 0 (from_below 4 (λ v. far v v == 0) none_here v l) in let e : far w v ≡ far v v = ap (λ w. far w v) way in omega arith
  at_least v l (suc k) w way = by_rest k way.0 way.1 way.2 way.3 (at_least v l k (head r way.0) way.3)
    where
      by_rest : (k c : ℕ) → Leaving r w c → (0 < k → Switch r (head r c)) → Way r v k (head r c) → far (head r c) v ≤ k → far w v ≤ suc k
      by_rest k c leaving through rest below =
          let count = count14 in
          let row = from_below 14 (λ c. all_below 4 (λ v. steps_home c v && steps_on c v)) no_leap c (let low = leaving.0 in omega arith) in
          let both = and_parts (steps_home c v) (steps_on c v) (from_below 4 (λ v. steps_home c v && steps_on c v) row v l) in
          let here : far w v ≡ far (from_node c) v = ap (λ w. far w v) (sym leaving.1 ∙ tail_is c) in
          let there : far (head r c) v ≡ far (to_node c) v = ap (λ w. far w v) (head_is c) in
          ⊎_elim
          (λ (z : k ≡ 0).
          let home : head r c ≡ v = subst (λ k. Way r v k (head r c)) z rest in
          let one = leb-true _ 1 (implied (to_node c == v) _ both.0 (eq-eqb _ v (sym (head_is c) ∙ home))) in
          omega arith)
          (λ (z : k ≡ 0 → ⊥).
          let switch : Switch r (to_node c) = subst (Switch r) (head_is c) (through (omega arith)) in
          let at : slice_index line_nodes (to_node c) ≡ 2 = ap (λ xs. slice_index xs (to_node c)) (sym t.0) ∙ switch in
          let one = leb-true _ _ (implied (is_switch (to_node c)) _ both.1 (eq-eqb _ 2 at)) in
          omega arith)
          (cases_eq k 0)

  module _ (table : List ℕ) (d : TrueDistances r table) where
    nodes8 : node_count r ≡ 8
    nodes8 = ap length t.0

    told_is : (w v : ℕ) → w < 8 → v < 4 → Host r v → told r table w v ≡ far w v
    told_is w v a b host =
        let n = nodes8 in
        let f : Fewest r v w (slice_index table (node_count r * w + v)) = d.1.host w v (omega arith) (omega arith) host in
        let low = ltb-true (far w v) 255 (from_below 4 (λ v. nat_lt (far w v) 255) (from_below 8 (λ w. all_below 4 (λ v. nat_lt (far w v) 255)) small w a) v b) in
        let above = f.shortest (far w v) (way_from v (far w v) w (from_below 4 (λ v. arrives v (far w v) w) (from_below 8 (λ w. all_below 4 (λ v. arrives v (far w v) w)) all_arrive w a) v b)) in
        let below = at_least v b (slice_index table (node_count r * w + v)) w (f.reached (omega arith)) in
        let room : node_count r * w + v < length table = omega (arith, mul-add-lt w (node_count r) v (node_count r) (omega arith) (omega arith), d.0) in
        let same : slice_index table (node_count r * w + v) ≡ far w v = omega arith in
        get_or_default_zero table (node_count r * w + v) 255 room ∙ same

    pub down_same : (c v : ℕ) → downhill_route r table c v ≡ down_at c v
    down_same c v =
        ⊎_elim
        (λ (e : enters_at line_nodes line_cables c && slice_index line_nodes v == 1 ≡ true). within e)
        (λ (e : enters_at line_nodes line_cables c && slice_index line_nodes v == 1 ≡ false).
        (λ i. cond (ends i && (host i && not (told r table (head r c) v == 255))) (least (one_nearer r table (head r c) v) 0 (channel_count r)) None)
        ∙ none_if (enters_at line_nodes line_cables c) (slice_index line_nodes v == 1) (not (told r table (head r c) v == 255)) (not (far (to_node c) v == 255))
        (least (one_nearer r table (head r c) v) 0 (channel_count r)) (least (nearer_at (to_node c) v) 0 14) e)
        (cases_Bool (enters_at line_nodes line_cables c && slice_index line_nodes v == 1))
      where
        ends : enters_switch r c ≡ enters_at line_nodes line_cables c
        ends = enters_same r line_nodes line_cables t.0 t.1 c

        host : is_end r v ≡ slice_index line_nodes v == 1
        host = ap (λ xs. slice_index xs v == 1) t.0

        within : enters_at line_nodes line_cables c && slice_index line_nodes v == 1 ≡ true → downhill_route r table c v ≡ down_at c v
        within e =
            let both = and_parts (enters_at line_nodes line_cables c) _ e in
            let w = to_node c in
            let c_low = ltb-true c 14 (and_parts (nat_lt c 14) _ both.0).0 in
            let w_low = ltb-true w 8 (from_below 14 (λ c. nat_lt (to_node c) 8) heads_low c c_low) in
            let v_is : slice_index line_nodes v ≡ 1 = eqb-true _ 1 both.1 in
            let v_host : Host r v = ap (λ xs. slice_index xs v) t.0 ∙ v_is in
            let n = nodes8 in
            let v_low : v < 4 = low_node v v_is (let l = host_below r v v_host in omega arith) in
            let here : told r table (head r c) v ≡ far w v = ap (λ w. told r table w v) (head_is c) ∙ told_is w v w_low v_low v_host in
            let each : (d : ℕ) → d < 0 + 14 → one_nearer r table (head r c) v d ≡ nearer_at w v d = λ d l.
            let x = to_node d in
            let x_low = ltb-true x 8 (from_below 14 (λ c. nat_lt (to_node c) 8) heads_low d (omega arith)) in
            let there : told r table (head r d) v ≡ far x v = ap (λ w. told r table w v) (head_is d) ∙ told_is x v x_low v_low v_host in
            λ i. (tail_is d i == head_is c i) && (there i + 1 == here i) in
            let best : least (one_nearer r table (head r c) v) 0 (channel_count r) ≡ least (nearer_at w v) 0 14 =
            ap (least (one_nearer r table (head r c) v) 0) count14 ∙ least_same (one_nearer r table (head r c) v) (nearer_at w v) 0 14 each in
            λ i. cond (ends i && (host i && not (here i == 255))) (best i) None
