-- What is refused on the triangle, for a pair. Assumes nothing.
use Rattle.std.proofs.Common.{◌≡◌, ℕ, ◌≤◌, ◌≢◌, true, not, ◌&&◌, ◌||◌, List, sym, refl, subst, inl, inr, arith, eq-eqb, lt-ltb}
use Rattle.std.specs.Prelude.{nat_lt, ◌==◌, slice_set}
use Rattle.std.proofs.lemmas.Bool.{or_left, or_right, and_from}
use Rattle.rack.specs.declared.rack.Rack.{Rack}
use Rattle.rack.specs.Racks.{channel_count}
use Rattle.example_racks.specs.declared.TheConstants.{CLOCKWISE}
use Rattle.example_racks.specs.Tables.{triangle_cables}
use Rattle.routing.specs.declared.fault.WalkFault.{WalkFault}
use Rattle.routing.specs.declared.fault.WalkFault.TheVariants.{Endless, NoChannel, Lane, Memory}
use Rattle.routing.specs.Turns.{stored_lane}
use Rattle.routing.specs.Paths.{Routing, routing, hop, PairOf}
use Rattle.routing.specs.Walks.{WalkStops}
use Rattle.routing.specs.Sources.{stored_route}
use Rattle.checking.specs.declared.fault.CheckFault.TheVariants.{Walk}
use Rattle.checking.specs.Plans.{level_at, FinePair, Earlier, FineBefore}
use Rattle.builder.specs.Method.{alone}
use Rattle.routing.specs.Plans.{OneToEight}
use Rattle.builder.specs.declared.fault.BuildFault.TheVariants.{Walk as NoWalk}
use Rattle.examples.specs.Racks.{AllZero, Triangle, pair_of, stored_rows, stored_two_hop}
use Rattle.examples.specs.Plans.{RefusedWith, WalkTells}
use Rattle.examples.specs.Triangles.{TwoHopOneLane, NoEntry, SentBack}
use Rattle.examples.specs.Builds.{NotBuilt}
use Rattle.examples.proofs.Nets.{Net, IsNet}
use Rattle.examples.proofs.Walks.{all_pairs}
use Rattle.examples.proofs.Fine.{Laid, fine, on_path, fine_where}
use Rattle.examples.proofs.Faults.{first_told, walk_tells}
use Rattle.examples.proofs.Stops.{stops}
use Rattle.examples.proofs.Method.{empty, take_row}
use Rattle.examples.proofs.Building.{task, walk_told}
use Rattle.examples.proofs.Triangles.{laid, pair02, flat, pair_in, channels12, raised, is_raised, on_zero, is_zero, is_alone}

-- the pairs before a pair
early_test : (a b u v : ℕ) → Earlier a b u v → nat_lt a u || (a == u && nat_lt b v) ≡ true
early_test a b u v (inl l) = or_left _ _ (lt-ltb a u l)
early_test a b u v (inr h) = or_right (nat_lt a u) _ (and_from _ _ (eq-eqb a u h.0) (lt-ltb b v h.1))

-- what is fine with few lanes is so with more
fewer : (g : Routing) (levels : List ℕ) (few many u v : ℕ) → few ≤ many → FinePair g levels few u v → FinePair g levels many u v
fewer g levels few many u v l f = record { level = f.level; arrives = f.arrives; low = λ i h on. omega (arith, f.low i h on) }

-- where the pairs before a pair are fine on lane 0, what stops the walk of that pair is told
refused_at :
    (g : Routing) (l : Laid g.rack) (m : Net) (is : IsNet g 0 m) (levels : List ℕ) (flat : (u v : ℕ) → PairOf g.rack u v → level_at g.rack levels u v ≡ 0) (n lanes u v : ℕ) → PairOf g.rack u v →
    all_pairs l.hosts (λ a b. not (nat_lt a u || (a == u && nat_lt b v)) || fine l.cables m n 1 a b) ≡ true →
    (f : WalkFault) → 1 ≤ lanes → WalkStops g lanes (pair_of u v) 0 (channel_count g.rack) f → RefusedWith g levels lanes (Walk f)
refused_at g l m is levels flat n lanes u v pair all f some at_fault old new a h =
    let before : FineBefore g levels lanes u v = λ a b is_pair early.
    fewer g levels 1 lanes a b some (fine_where g l m is levels flat n 1 (λ a b. nat_lt a u || (a == u && nat_lt b v)) all a b is_pair (early_test a b u v early)) in
    let stops_so = subst (λ s. WalkStops g lanes (pair_of u v) s (channel_count g.rack) f) (sym (flat u v pair)) at_fault in
    first_told g levels lanes flat (pair_of u v) pair before f stops_so old new a h.starts h.checked h.room

-- the path from 0 to 1 takes lane 1 at hop 2
pub two_hop_one_lane : TwoHopOneLane
two_hop_one_lane r levels t z =
    let g = stored_two_hop r CLOCKWISE in
    let is = is_raised r t in
    let pair = pair_in r t 0 1 refl refl (omega arith) in
    let stop : WalkStops g 1 (pair_of 0 1) 0 (channel_count r) (Lane (pair_of 0 1) 2) = (
      (hop 6 0, stops g (laid r t) raised is 1 (pair_of 0 1) 1 2 (hop 6 0) pair (omega arith) refl refl refl refl),
      (hop 3 1, on_path g (laid r t) raised is 0 1 2 (hop 3 1) pair.0 refl, omega arith),
      (let e = channels12 r t in omega arith),
    ) in (
      walk_tells g 1 (pair_of 0 1) 0 (channel_count r) (Lane (pair_of 0 1) 2) stop (λ e. absurd (cc)),
      refused_at g (laid r t) raised is levels (flat r levels z) 5 1 0 1 pair refl (Lane (pair_of 0 1) 2) (omega arith) stop,
    )

-- the changed tables
abbrev missing : List ℕ
missing = slice_set CLOCKWISE 20 0

abbrev turned_back : List ℕ
turned_back = slice_set CLOCKWISE 26 8

-- there the walk from 0 to 2 stops, whatever the map, if it keeps to lane 0
module _ (r : Rack) (t : Triangle r) (lane : ℕ → ℕ → ℕ → ℕ) (count : ℕ) (some : 1 ≤ count) where
  no_entry_stops : IsNet (routing r (stored_route r missing) lane) 0 (on_zero missing) → WalkStops (routing r (stored_route r missing) lane) count (pair_of 0 2) 0 (channel_count r) (NoChannel (pair_of 0 2) 1)
  no_entry_stops is =
      let stop = stops (routing r (stored_route r missing) lane) (laid r t) (on_zero missing) is count (pair_of 0 2) 0 1 (hop 0 0) (pair02 r t) some refl refl refl refl in
      ((hop 0 0, stop, is.next 0 2), (let e = channels12 r t in omega arith))

  sent_back_stops : IsNet (routing r (stored_route r turned_back) lane) 0 (on_zero turned_back) → WalkStops (routing r (stored_route r turned_back) lane) count (pair_of 0 2) 0 (channel_count r) (Endless (pair_of 0 2) 12)
  sent_back_stops is =
      let stop = stops (routing r (stored_route r turned_back) lane) (laid r t) (on_zero turned_back) is count (pair_of 0 2) 11 12 (hop 6 0) (pair02 r t) some refl refl refl refl in
      ((hop 6 0, stop), sym (channels12 r t))

-- so the walk, the check and the builder tell it
module _ (r : Rack) (forwarding lanes levels : List ℕ) (count : ℕ) (t : Triangle r) (zl : AllZero lanes) (z : AllZero levels) (range : OneToEight count) (f : WalkFault) (ne : f ≢ Memory) where
  told_by_all :
      all_pairs 3 (λ a b. not (nat_lt a 0 || (a == 0 && nat_lt b 2)) || fine triangle_cables (on_zero forwarding) 5 1 a b) ≡ true →
      (take_row (task r (laid r t) (stored_route r forwarding) (on_zero forwarding) (is_alone r forwarding t) 5 1) 0 2 empty).ok ≡ true →
      WalkStops (stored_rows r forwarding lanes) count (pair_of 0 2) 0 (channel_count r) f → WalkStops (alone r (stored_route r forwarding)) 8 (pair_of 0 2) 0 (channel_count r) f →
      WalkTells (stored_rows r forwarding lanes) count (pair_of 0 2) 0 f × RefusedWith (stored_rows r forwarding lanes) levels count (Walk f) × NotBuilt r (stored_route r forwarding) count (NoWalk f)
  told_by_all before built stop stop_alone = (
    walk_tells (stored_rows r forwarding lanes) count (pair_of 0 2) 0 (channel_count r) f stop ne,
    refused_at (stored_rows r forwarding lanes) (laid r t) (on_zero forwarding) (is_zero r forwarding lanes t zl) levels (flat r levels z) 5 count 0 2 (pair02 r t) before f range.0 stop,
    walk_told r (laid r t) (stored_route r forwarding) (on_zero forwarding) (is_alone r forwarding t) 5 1 count 2 f range range.0 (pair02 r t) built stop_alone,
  )

pub no_entry : NoEntry
no_entry r lanes levels count t zl z range =
    told_by_all r missing lanes levels count t zl z range (NoChannel (pair_of 0 2) 1) (λ e. absurd (cc)) refl refl
    (no_entry_stops r t (stored_lane r lanes) count range.0 (is_zero r missing lanes t zl)) (no_entry_stops r t (λ _ _ _. 0) 8 (omega arith) (is_alone r missing t))

pub sent_back : SentBack
sent_back r lanes levels count t zl z range =
    told_by_all r turned_back lanes levels count t zl z range (Endless (pair_of 0 2) 12) (λ e. absurd (cc)) refl refl
    (sent_back_stops r t (stored_lane r lanes) count range.0 (is_zero r turned_back lanes t zl)) (sent_back_stops r t (λ _ _ _. 0) 8 (omega arith) (is_alone r turned_back t))
