-- The computed method is that of the builder. Assumes nothing.
use Rattle.std.proofs.Common.{◌≡◌, ℕ, zero, suc, ◌+◌, ◌-◌, ◌*◌, ◌<◌, ◌≤◌, Bool, true, false, not, ◌&&◌, ◌||◌, cond, min, List, [], ◌∷◌, length, slice_index, Some, Option, Ok, Err, ◌≢◌, sym, refl, ap, ◌∙◌, subst, ⊎_elim, inl, inr, arith, ltb-true, eqb-true, eq-eqb}
use Rattle.std.specs.Prelude.{nat_lt, nat_le, ◌==◌, slice_set}
use Rattle.std.proofs.lemmas.Bool.{false≢true, true≢false, or_cases, both_ways, not-true, and_from, not_from_false, false_from_ne_true, leb-true, cases_Bool, and_parts, cond-true, cond-false}
use Rattle.std.proofs.lemmas.List.{take_all}
use Rattle.rack.specs.declared.rack.Rack.{Rack}
use Rattle.rack.specs.Network.{channels, tail_end, head_end}
use Rattle.rack.specs.Racks.{node_count, channel_count, tail_port}
use Rattle.routing.specs.Turns.{row_start, lane_bytes}
use Rattle.routing.specs.declared.fault.WalkFault.{WalkFault}
use Rattle.routing.specs.Walks.{WalkStops}
use Rattle.routing.specs.Paths.{Hop, hop, PairOf, OnPath, EndsAtHop}
use Rattle.builder.specs.Method.{alone, PathOf, Middle, entry_of, entry_place, Fits, Claimed, Tables, tables, blank, PairBuilt, Taken, Receivers, Senders, Built}
use Rattle.builder.specs.declared.fault.BuildFault.TheVariants.{Lane, Walk}
use Rattle.routing.specs.Plans.{OneToEight}
use Rattle.builder.specs.Outcomes.{needed, FirstLacks, Outcome}
use Rattle.builder.proofs.Single.{one_outcome}
use Rattle.examples.specs.Racks.{pair_of}
use Rattle.examples.specs.Builds.{zeros_but, blank_but, BuildsTo, NotBuilt}
use Rattle.examples.proofs.Nets.{Net, IsNet, turns_same}
use Rattle.examples.proofs.Walks.{from_below, hop_in, ends, listed, from_each, lastly, from_lastly}
use Rattle.examples.proofs.Fine.{Laid, fine, into, path_in, on_path}
use Rattle.examples.proofs.Sheets.{val, inside, as_long, val_is, put_is, put_other, alike, same_zeros}
use Rattle.examples.proofs.Method.{Task, chans, Sheet, empty, way, byte, entry, fits, misfit, lowest, claims, claimed, walks, settles, given, places, placed, is_pair, take_if, take_row, take_all_of}

not_both : (a : Bool) → not a ≡ true → a ≡ true → ⊥
not_both a e f = both_ways a (not-true a e) f

chans_long : (hs : List Hop) → length (chans hs) ≡ length hs
chans_long [] = refl
chans_long (h ∷ hs) = ap suc (chans_long hs)

chan_at : (hs : List Hop) (i : ℕ) → i < length hs → (h : Hop) × (hop_in hs i ≡ Some h) × (slice_index (chans hs) i ≡ h.channel)
chan_at [] i l = absurd (omega arith)
chan_at (h ∷ hs) zero l = (h, refl, refl)
chan_at (h ∷ hs) (suc i) l = chan_at hs i (omega arith)

same_hop : (h : Hop) (c : ℕ) → c ≡ h.channel → h.lane ≡ 0 → h ≡ hop c 0
same_hop h c e l = λ i. hop (sym e i) (l i)

module _ (r : Rack) (laid : Laid r) (route : ℕ → ℕ → Option ℕ) (net : Net) (is : IsNet (alone r route) 0 net) (fuel count : ℕ) where
  -- the method on this rack, by this source
  abbrev pub task : Task
  task = record { nodes = laid.nodes; cables = laid.cables; net = net; fuel = fuel; count = count }

  bytes : lane_bytes (channel_count r) ≡ lane_bytes (channels laid.cables)
  bytes = ap (λ xs. lane_bytes (channels xs)) laid.same_cables

  nodes : node_count r ≡ length laid.nodes
  nodes = ap length laid.same_nodes

  squares : node_count r * node_count r ≡ length laid.nodes * length laid.nodes
  squares = ap (λ n. n * n) nodes

  -- the tables that a sheet tells
  abbrev pub sheet : Sheet → Tables
  sheet t = blank_but r t.lanes t.levels

  path_of : (u v : ℕ) → PairOf r u v → walks task u v ≡ true → PathOf r route u v (way task u v)
  path_of u v pair t =
      let hs = path_in net fuel u v in
      let both = and_parts (fine laid.cables net fuel 1 u v) (nat_le (length (way task u v)) (channels laid.cables)) t in
      let end_rest = and_parts (ends net v fuel (Some (hop (2 * u) 0))) _ both.0 in
      let rest = and_parts (lastly (into laid.cables v) hs) _ end_rest.1 in
      let last = from_lastly (into laid.cables v) hs rest.0 in
      let into_v = and_parts (nat_lt last.1.channel (channels laid.cables)) ((head_end laid.cables last.1.channel).node.0 == v) last.3 in
      let all = listed net v fuel (Some (hop (2 * u) 0)) end_rest.0 in
      let long = chans_long hs in
      let on = on_path (alone r route) laid net is u v in
      let before : length (way task u v) - 1 ≡ last.0 = omega (arith, last.4, long) in
      record {
        some = omega (arith, last.4, long);
        short = subst (λ n. length (way task u v) ≤ n) (ap channels (sym laid.same_cables)) (leb-true _ _ both.1);
        hops = λ i l.
            let here = chan_at hs i (omega arith) in
            let low = ltb-true here.0.lane 1 (from_each (λ h. nat_lt h.lane 1) hs rest.1 i here.0 here.1) in
            let same : here.0 ≡ hop (slice_index (way task u v) i) 0 = same_hop here.0 _ here.2 (omega arith) in
            subst (OnPath (alone r route) u v 0 i) same (on i here.0 pair.0 (all i ∙ here.1));
        ends =
            subst (EndsAtHop (alone r route) u v 0) (sym before) (
              last.1,
              on last.0 last.1 pair.0 (all last.0 ∙ last.2),
              ltb-true _ (channel_count r) (ap (λ xs. nat_lt last.1.channel (channels xs)) laid.same_cables ∙ into_v.0),
              ap (λ xs. (head_end xs last.1.channel).node.0) laid.same_cables ∙ eqb-true _ v into_v.1,
            );
      }

  module _ (ws : List (ℕ × ℕ)) (path : List ℕ) (s : ℕ) where
    place_is : (j : ℕ) → entry_place r path s j ≡ byte task path s j
    place_is j = ap (λ xs. row_start (slice_index path j) (tail_end xs (slice_index path (j + 1))).port.0 + s) laid.same_cables

    entry_is : inside (lane_bytes (channels laid.cables)) ws ≡ true → (j : ℕ) → entry_of r (zeros_but (lane_bytes (channel_count r)) ws) path s j ≡ entry task ws path s j
    entry_is within j =
        let c = slice_index path j in
        let d = slice_index path (j + 1) in
        let table = zeros_but (lane_bytes (channel_count r)) ws in
        let long : length table ≡ lane_bytes (channels laid.cables) = as_long (lane_bytes (channel_count r)) ws ∙ bytes in
        let start : row_start c (tail_port r d) ≡ row_start c (tail_end laid.cables d).port.0 = ap (λ xs. row_start c (tail_end xs d).port.0) laid.same_cables in
        let held : slice_index table (row_start c (tail_port r d) + s) ≡ val ws (byte task path s j) =
        ap (λ n. slice_index table (n + s)) start ∙ val_is (lane_bytes (channel_count r)) ws (subst (λ n. inside n ws ≡ true) (sym bytes) within) (byte task path s j) in
        λ i. cond (turns_same r laid.nodes laid.cables laid.same_nodes laid.same_cables c d i) (cond (nat_le (start i + 16) (long i)) (min (held i) 7) 0) 0

    middle_low : (j : ℕ) → Middle path j → j < length path - 2
    middle_low j mid = omega (arith, mid.0, mid.1)

    fits_is : inside (lane_bytes (channels laid.cables)) ws ≡ true → fits task ws path s ≡ true → Fits r (zeros_but (lane_bytes (channel_count r)) ws) path s
    fits_is within t j mid =
        let e = entry_is within j in
        let is_it = from_below (length path - 2) (λ j. j == 0 || (entry task ws path s j == 0 || entry task ws path s j == j)) t j (middle_low j mid) in
        ⊎_elim
        (λ (z : j == 0 ≡ true). absurd (omega (arith, mid.0, eqb-true j 0 z)))
        (λ (o : (entry task ws path s j == 0 || entry task ws path s j == j) ≡ true).
        ⊎_elim
        (λ (z : entry task ws path s j == 0 ≡ true). inl (e ∙ eqb-true _ 0 z))
        (λ (z : entry task ws path s j == j ≡ true). inr (e ∙ eqb-true _ j z))
        (or_cases _ _ o))
        (or_cases _ _ is_it)

    misfit_is : inside (lane_bytes (channels laid.cables)) ws ≡ true → (n : ℕ) → n ≤ length path - 2 → misfit task ws path s n ≡ true → Fits r (zeros_but (lane_bytes (channel_count r)) ws) path s → ⊥
    misfit_is within zero l t fit = absurd (false≢true t)
    misfit_is within (suc n) l t fit =
        ⊎_elim
        (λ (here : (not (n == 0) && (not (entry task ws path s n == 0) && not (entry task ws path s n == n))) ≡ true).
        let some = and_parts (not (n == 0)) _ here in
        let unlike = and_parts (not (entry task ws path s n == 0)) _ some.1 in
        let positive : n ≢ 0 = λ z. not_both (n == 0) some.0 (eq-eqb n 0 z) in
        ⊎_elim
        (λ (z : entry_of r (zeros_but (lane_bytes (channel_count r)) ws) path s n ≡ 0). not_both _ unlike.0 (eq-eqb _ 0 (sym (entry_is within n) ∙ z)))
        (λ (z : entry_of r (zeros_but (lane_bytes (channel_count r)) ws) path s n ≡ n). not_both _ unlike.1 (eq-eqb _ n (sym (entry_is within n) ∙ z)))
        (fit n (omega arith, omega arith)))
        (λ (below : misfit task ws path s n ≡ true). misfit_is within n (omega arith) below fit)
        (or_cases _ _ t)

    claims_other : (n k : ℕ) → n ≤ length path - 2 → ((j : ℕ) → Middle path j → k ≢ byte task path s j) → val (claims task ws path s n) k ≡ val ws k
    claims_other zero k l none = refl
    claims_other (suc n) k l none =
        let rest = claims task ws path s n in
        let before = claims_other n k (omega arith) none in
        ⊎_elim
        (λ (z : n == 0 ≡ true). ap (λ xs. val xs k) (cond-true _ _ _ z) ∙ before)
        (λ (z : n == 0 ≡ false).
        let positive : n ≢ 0 = λ e. true≢false (sym (eq-eqb n 0 e) ∙ z) in
        ap (λ xs. val xs k) (cond-false _ _ _ z) ∙ put_other rest (byte task path s n) n k (none n (omega arith, omega arith)) ∙ before)
        (cases_Bool (n == 0))

    claimed_is : given task path s ws ≡ true → Claimed r path s (zeros_but (lane_bytes (channel_count r)) ws) (zeros_but (lane_bytes (channel_count r)) (claimed task ws path s))
    claimed_is t =
        let was = and_parts (inside (lane_bytes (channels laid.cables)) ws) _ t in
        let now = and_parts (inside (lane_bytes (channels laid.cables)) (claimed task ws path s)) _ was.1 in
        let size = lane_bytes (channel_count r) in
        let in_was : inside size ws ≡ true = subst (λ n. inside n ws ≡ true) (sym bytes) was.0 in
        let in_now : inside size (claimed task ws path s) ≡ true = subst (λ n. inside n (claimed task ws path s) ≡ true) (sym bytes) now.0 in
        record {
          long = as_long size (claimed task ws path s) ∙ sym (as_long size ws);
          given = λ j mid.
              ⊎_elim
              (λ (z : j == 0 ≡ true). absurd (omega (arith, mid.0, eqb-true j 0 z)))
              (λ (z : val (claimed task ws path s) (byte task path s j) == j ≡ true).
              ap (slice_index (zeros_but size (claimed task ws path s))) (place_is j) ∙ val_is size (claimed task ws path s) in_now (byte task path s j) ∙ eqb-true _ j z)
              (or_cases _ _ (from_below (length path - 2) (λ j. j == 0 || val (claimed task ws path s) (byte task path s j) == j) now.1 j (middle_low j mid)));
          kept = λ k none.
              val_is size (claimed task ws path s) in_now k
              ∙ claims_other (length path - 2) k (omega arith) (λ j mid e. none j mid (e ∙ sym (place_is j)))
              ∙ sym (val_is size ws in_was k);
        }

  placed_is : (u v : ℕ) (t : Sheet) (s : ℕ) → PairOf r u v → walks task u v ≡ true → places task u v t s ≡ true → PairBuilt r route count u v (sheet t) (sheet (placed task u v t s))
  placed_is u v t s pair walked settled =
      let path = way task u v in
      let parts = and_parts (nat_le (length path) (count + 2) && inside (length laid.nodes * length laid.nodes) t.levels) _ settled in
      let sizes = and_parts (nat_le (length path) (count + 2)) _ parts.0 in
      let rest = and_parts (settles task path s t.lanes) _ parts.1 in
      let level = and_parts (nat_lt s 16) _ rest.0 in
      let low = and_parts (fits task t.lanes path s) _ level.1 in
      let within = (and_parts (inside (lane_bytes (channels laid.cables)) t.lanes) _ rest.1).0 in
      record {
        path = path;
        level = s;
        walked = path_of u v pair walked;
        short = leb-true _ _ sizes.0;
        placed = record {
          lowest = record {
            level = ltb-true s 16 level.0;
            fits = fits_is t.lanes path s within low.0;
            least = λ k l fit. misfit_is t.lanes path k within (length path - 2) (omega arith) (from_below s (λ k. misfit task t.lanes path k (length path - 2)) low.1 k l) fit;
          };
          claimed = claimed_is t.lanes path s rest.1;
          told =
              put_is (node_count r * node_count r) t.levels (length laid.nodes * u + v) s (subst (λ n. inside n t.levels ≡ true) (sym squares) sizes.1)
              ∙ ap (λ n. slice_set (zeros_but (node_count r * node_count r) t.levels) (n * u + v) s) (sym nodes);
        };
      }

  pair_is : (u v : ℕ) → is_pair task u v ≡ true → PairOf r u v
  pair_is u v t =
      let one = and_parts (slice_index laid.nodes u == 1) _ t in
      let two = and_parts (slice_index laid.nodes v == 1) _ one.1 in
      (ap (λ xs. slice_index xs u) laid.same_nodes ∙ eqb-true _ 1 one.0, ap (λ xs. slice_index xs v) laid.same_nodes ∙ eqb-true _ 1 two.0, λ e. not_both (u == v) two.1 (eq-eqb u v e))

  no_pair : (u v : ℕ) → is_pair task u v ≡ false → PairOf r u v → ⊥
  no_pair u v t pair =
      let sends = eq-eqb _ 1 (ap (λ xs. slice_index xs u) (sym laid.same_nodes) ∙ pair.0) in
      let receives = eq-eqb _ 1 (ap (λ xs. slice_index xs v) (sym laid.same_nodes) ∙ pair.1) in
      let unlike = not_from_false (u == v) (false_from_ne_true (u == v) (λ e. pair.2 (eqb-true u v e))) in
      let is_so : is_pair task u v ≡ true = and_from _ _ sends (and_from _ _ receives unlike) in
      true≢false (sym is_so ∙ t)

  taken_if : (b : Bool) (u v : ℕ) (t : Sheet) → is_pair task u v ≡ b → (take_if task b u v t).ok ≡ true → (t.ok ≡ true) × Taken r route count u v (sheet t) (sheet (take_if task b u v t))
  taken_if true u v t p e =
      let s = lowest task t.lanes (way task u v) 0 16 in
      let parts = and_parts t.ok _ e in
      let rest = and_parts (walks task u v) _ parts.1 in
      let pair = pair_is u v p in
      (parts.0, inl (pair, placed_is u v t s pair rest.0 rest.1))
  taken_if false u v t p e = (e, inr (no_pair u v p, refl))

  row_is : (u n : ℕ) (t : Sheet) → (take_row task u n t).ok ≡ true → (t.ok ≡ true) × Receivers r route count u n (sheet t) (sheet (take_row task u n t))
  row_is u zero t e = (e, refl)
  row_is u (suc v) t e =
      let mid = take_row task u v t in
      let last = taken_if (is_pair task u v) u v mid refl e in
      let before = row_is u v t last.0 in
      (before.0, (sheet mid, before.1, last.1))

  pub all_is : (n : ℕ) (t : Sheet) → (take_all_of task n t).ok ≡ true → (t.ok ≡ true) × Senders r route count n (sheet t) (sheet (take_all_of task n t))
  all_is zero t e = (e, refl)
  all_is (suc u) t e =
      let mid = take_all_of task u t in
      let last = row_is u (length laid.nodes) mid e in
      let before = all_is u t last.0 in
      (before.0, (sheet mid, before.1, subst (λ n. Receivers r route count u n (sheet mid) (sheet (take_row task u (length laid.nodes) mid))) (sym nodes) last.1))

  needed_is : (t : Sheet) → needed r (sheet t) ≡ sheet t
  needed_is t =
      let n = lane_bytes (channel_count r) in
      let k = node_count r * node_count r in
      let lanes = take_all n (zeros_but n t.lanes) (let e = as_long n t.lanes in omega arith) in
      let levels = take_all k (zeros_but k t.levels) (let e = as_long k t.levels in omega arith) in
      λ i. tables (lanes i) (levels i)

  -- the sheet tells these tables
  abbrev pub tells : Sheet → List (ℕ × ℕ) → List (ℕ × ℕ) → Bool
  tells t ws ls = t.ok && (alike (lane_bytes (channels laid.cables)) t.lanes ws && alike (length laid.nodes * length laid.nodes) t.levels ls)

  sheet_is : (t : Sheet) (ws ls : List (ℕ × ℕ)) → alike (lane_bytes (channels laid.cables)) t.lanes ws && alike (length laid.nodes * length laid.nodes) t.levels ls ≡ true → sheet t ≡ blank_but r ws ls
  sheet_is t ws ls e =
      let both = and_parts (alike (lane_bytes (channels laid.cables)) t.lanes ws) _ e in
      let lanes = same_zeros (lane_bytes (channel_count r)) (lane_bytes (channels laid.cables)) t.lanes ws bytes both.0 in
      let levels = same_zeros (node_count r * node_count r) (length laid.nodes * length laid.nodes) t.levels ls squares both.1 in
      λ i. tables (lanes i) (levels i)

  -- where all went well, the builder gives the tables that the sheet tells
  pub builds_to : (ws ls : List (ℕ × ℕ)) → OneToEight count → tells (take_all_of task (length laid.nodes) empty) ws ls ≡ true → BuildsTo r route count (blank_but r ws ls)
  builds_to ws ls range told was now a h =
      let t = take_all_of task (length laid.nodes) empty in
      let parts = and_parts t.ok _ told in
      let all : Senders r route count (node_count r) (blank r) (sheet t) = subst (λ n. Senders r route count n (blank r) (sheet t)) (sym nodes) (all_is (length laid.nodes) empty parts.0).1 in
      let built : Built r route count (needed r (sheet t)) = subst (Built r route count) (sym (needed_is t)) all in
      let out : Outcome r route count was (sheet t) (Ok tt) = (range, h.long, built) in
      let one = one_outcome r route count was now (sheet t) a (Ok tt) h.outcome out h.room (λ e. absurd (cc)) in
      (one.0, one.1 ∙ needed_is t ∙ sheet_is t ws ls parts.1)

  -- where a pair's path is too long for the lanes, and all went well before, the builder tells that pair
  pub lane_told : OneToEight count → (u v : ℕ) → PairOf r u v → (take_row task u v (take_all_of task u empty)).ok ≡ true → walks task u v ≡ true → count + 2 < length (way task u v) →
      NotBuilt r route count (Lane (pair_of u v))
  lane_told range u v pair ok walked long was now a h =
      let before = take_all_of task u empty in
      let here = take_row task u v before in
      let row = row_is u v before ok in
      let lacks : FirstLacks r route count (Lane (pair_of u v)) = record {
        sender = u;
        there = sheet before;
        before = (all_is u empty row.0).1;
        row = record {
          pair = pair_of u v;
          here = sheet here;
          sender = refl;
          hosts = pair;
          before = row.1;
          lacks = (refl, (way task u v, path_of u v pair walked, long));
        };
      } in
      let out : Outcome r route count was (blank r) (Err (Lane (pair_of u v))) = (range, h.long, needed_is empty, lacks) in
      (one_outcome r route count was now (blank r) a (Err (Lane (pair_of u v))) h.outcome out h.room (λ e. absurd (cc))).0

  -- what is built with few lanes is built with more
  more_built : (u v : ℕ) (was now : Tables) (many : ℕ) → count ≤ many → PairBuilt r route count u v was now → PairBuilt r route many u v was now
  more_built u v was now many l b = record { path = b.path; level = b.level; walked = b.walked; short = (let short = b.short in omega arith); placed = b.placed }

  more_taken : (u n : ℕ) (was now : Tables) (many : ℕ) → count ≤ many → Receivers r route count u n was now → Receivers r route many u n was now
  more_taken u zero was now many l h = h
  more_taken u (suc v) was now many l h = (
    h.0,
    more_taken u v was h.0 many l h.1,
    ⊎_elim
        (λ (b : PairOf r u v × PairBuilt r route count u v h.0 now). inl (b.0, more_built u v h.0 now many l b.1))
        (λ (n : (PairOf r u v → ⊥) × (now ≡ h.0)). inr n)
        h.2,
  )

  -- where the walk of a pair of sender 0 stops, and all went well before, the builder tells that fault
  pub walk_told :
      (many v : ℕ) (f : WalkFault) → OneToEight many → count ≤ many → PairOf r 0 v → (take_row task 0 v empty).ok ≡ true →
      WalkStops (alone r route) 8 (pair_of 0 v) 0 (channel_count r) f → NotBuilt r route many (Walk f)
  walk_told many v f range l pair ok stops was now a h =
      let here = take_row task 0 v empty in
      let lacks : FirstLacks r route many (Walk f) = record {
        sender = 0;
        there = sheet empty;
        before = refl;
        row = record {
          pair = pair_of 0 v;
          here = sheet here;
          sender = refl;
          hosts = pair;
          before = more_taken 0 v (sheet empty) (sheet here) many l (row_is 0 v empty ok).1;
          lacks = stops;
        };
      } in
      let out : Outcome r route many was (blank r) (Err (Walk f)) = (range, h.long, needed_is empty, lacks) in
      (one_outcome r route many was now (blank r) a (Err (Walk f)) h.outcome out h.room (λ e. absurd (cc))).0
