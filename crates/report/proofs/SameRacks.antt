-- Two racks with the same nodes and cables: what is said of one holds of the other. Assumes nothing.
use Rattle.std.proofs.Common.{◌≡◌, ℕ, zero, suc, ◌+◌, ◌-◌, ◌*◌, ◌<◌, ◌≤◌, Bool, true, false, cond, ◌&&◌, eqb, ltb, ◌⊎◌, List, length, get_or, replicate, Some, None, Option, sym, refl, ap, ◌∙◌, subst, inl, inr, arith}
use Rattle.rack.specs.declared.cable.Cable.{Cable}
use Rattle.rack.specs.declared.rack.Rack.{Rack}
use Rattle.rack.specs.Network.{channels, tail_end, head_end}
use Rattle.rack.specs.Racks.{nodes_of, cables_of, node_count, channel_count}
use Rattle.routing.specs.declared.pair.Pair.{Pair}
use Rattle.routing.specs.declared.fault.WalkFault.{WalkFault}
use Rattle.routing.specs.declared.fault.WalkFault.TheVariants.{NoPair, Endless, NoChannel, Elsewhere, Lane as High, OtherHost, Memory as NoRoom}
use Rattle.routing.specs.Turns.{row_start, row_lane, stored_lane, lane_bytes}
use Rattle.routing.specs.Paths.{Routing, routing, Hop, hop, PairOf, named, behind, hop_at, OnPath, EndsAtHop}
use Rattle.routing.specs.Walks.{Reaches, Stops, WalkStops}
use Rattle.builder.specs.declared.fault.BuildFault.{BuildFault}
use Rattle.builder.specs.declared.fault.BuildFault.TheVariants.{Walk, Lane, Level}
use Rattle.builder.specs.Method.{alone, PathOf, Middle, Fits, Lowest, Claimed, Tables, tables, blank, Placed, PairBuilt, Taken, Receivers, Senders, Built}
use Rattle.builder.specs.Outcomes.{Lacks, FirstLacks}

-- the same nodes and cables
pub record Same (r q : Rack) : Type 0 where
  pub nodes : nodes_of r ≡ nodes_of q
  pub cables : cables_of r ≡ cables_of q

pub turned : {r q : Rack} → Same r q → Same q r
turned e = record { nodes = sym e.nodes; cables = sym e.cables }

-- a fact by nodes and cables alone
pub over : {r q : Rack} → Same r q → (P : List ℕ → List Cable → Type 0) → P (nodes_of r) (cables_of r) → P (nodes_of q) (cables_of q)
over {r = r} {q = q} e P x = subst (λ ns. P ns (cables_of q)) e.nodes (subst (P (nodes_of r)) e.cables x)

-- whether channel c enters a switch; whether channel d is a turn from it; the lane of that turn
abbrev pub entering : List ℕ → List Cable → ℕ → Bool
entering ns cs c = ltb c (channels cs) && eqb (get_or ns (head_end cs c).node.0 0) 2

abbrev turning : List ℕ → List Cable → ℕ → ℕ → Bool
turning ns cs c d = entering ns cs c && (ltb d (channels cs) && eqb (tail_end cs d).node.0 (head_end cs c).node.0)

abbrev lane_in : List ℕ → List Cable → List ℕ → ℕ → ℕ → ℕ → ℕ
lane_in ns cs table c d s = cond (turning ns cs c d) (row_lane table (row_start c (tail_end cs d).port.0) s) 0

module _ {r q : Rack} (e : Same r q) where
  pub same_count : node_count r ≡ node_count q
  same_count = ap length e.nodes

  pub same_lanes : (table : List ℕ) → stored_lane r table ≡ stored_lane q table
  same_lanes table = λ i c d s. lane_in (e.nodes i) (e.cables i) table c d s

  same_blank : blank r ≡ blank q
  same_blank = λ i. tables (replicate (lane_bytes (channels (e.cables i))) 0) (replicate (length (e.nodes i) * length (e.nodes i)) 0)

  pub pair_to : (u v : ℕ) → PairOf r u v → PairOf q u v
  pair_to u v x = over e (λ ns cs. (get_or ns u 0 ≡ 1) × (get_or ns v 0 ≡ 1) × (u ≡ v → ⊥)) x

  -- paths by one source, and by lanes that are the same
  module _ (route : ℕ → ℕ → Option ℕ) {lane lane' : ℕ → ℕ → ℕ → ℕ} (l : lane ≡ lane') where
    abbrev R : Routing
    R = routing r route lane

    abbrev Q : Routing
    Q = routing q route lane'

    same_named : (v s c : ℕ) (x : Option ℕ) → named R v s c x ≡ named Q v s c x
    same_named v s c None = refl
    same_named v s c (Some d) = λ i. cond (turning (e.nodes i) (e.cables i) c d) (Some (hop d (l i c d s))) None

    same_behind : (v s : ℕ) (x : Option Hop) → behind R v s x ≡ behind Q v s x
    same_behind v s None = refl
    same_behind v s (Some h) = λ i. cond (entering (e.nodes i) (e.cables i) h.channel) (same_named v s h.channel (route h.channel v) i) None

    same_hop : (c v s i : ℕ) → hop_at R c v s i ≡ hop_at Q c v s i
    same_hop c v s zero = refl
    same_hop c v s (suc i) = ap (behind R v s) (same_hop c v s i) ∙ same_behind v s (hop_at Q c v s i)

    pub on_to : (u v s i : ℕ) (h : Hop) → OnPath R u v s i h → OnPath Q u v s i h
    on_to u v s i h on = (on.0, over e (λ ns cs. (on.0 < channels cs) × ((tail_end cs on.0).node.0 ≡ u)) on.1, sym (same_hop on.0 v s i) ∙ on.2)

    pub ends_to : (u v s n : ℕ) → EndsAtHop R u v s n → EndsAtHop Q u v s n
    ends_to u v s n x =
        let last = over e (λ ns cs. (x.0.channel < channels cs) × ((head_end cs x.0.channel).node.0 ≡ v)) (x.2, x.3) in
        (x.0, on_to u v s n x.0 x.1, last.0, last.1)

  -- and by the source alone
  module _ (route : ℕ → ℕ → Option ℕ) where
    alone_to : (u v i : ℕ) (h : Hop) → OnPath (alone r route) u v 0 i h → OnPath (alone q route) u v 0 i h
    alone_to u v i h = on_to route {lane = λ _ _ _. 0} refl u v 0 i h

    path_to : {u v : ℕ} {path : List ℕ} → PathOf r route u v path → PathOf q route u v path
    path_to {u = u} {v = v} {path = path} x =
        record {
          some = x.some;
          short = over e (λ ns cs. length path ≤ channels cs) x.short;
          hops = λ i l. alone_to u v i (hop (get_or path i 0) 0) (x.hops i l);
          ends = ends_to route {lane = λ _ _ _. 0} refl u v 0 (length path - 1) x.ends;
        }

  fits_to : (lanes path : List ℕ) (s : ℕ) → Fits r lanes path s → Fits q lanes path s
  fits_to lanes path s x =
      over e (λ ns cs. (j : ℕ) → Middle path j → (lane_in ns cs lanes (get_or path j 0) (get_or path (j + 1) 0) s ≡ 0) ⊎ (lane_in ns cs lanes (get_or path j 0) (get_or path (j + 1) 0) s ≡ j)) x

-- what a pair does to the tables
lowest_to : {r q : Rack} → Same r q → {lanes path : List ℕ} {s : ℕ} → Lowest r lanes path s → Lowest q lanes path s
lowest_to e {lanes = lanes} {path = path} {s = s} x =
    record { level = x.level; fits = fits_to e lanes path s x.fits; least = λ t l f. x.least t l (fits_to (turned e) lanes path t f) }

claimed_to : {r q : Rack} → Same r q → {path : List ℕ} {s : ℕ} {was now : List ℕ} → Claimed r path s was now → Claimed q path s was now
claimed_to e {path = path} {s = s} {was = was} {now = now} x =
    record {
      long = x.long;
      given = over e (λ ns cs. (j : ℕ) → Middle path j → get_or now (row_start (get_or path j 0) (tail_end cs (get_or path (j + 1) 0)).port.0 + s) 0 ≡ j) x.given;
      kept = over e (λ ns cs. (k : ℕ) → ((j : ℕ) → Middle path j → k ≡ row_start (get_or path j 0) (tail_end cs (get_or path (j + 1) 0)).port.0 + s → ⊥) → get_or now k 0 ≡ get_or was k 0) x.kept;
    }

-- what was built is the same
module _ {r q : Rack} (e : Same r q) (route : ℕ → ℕ → Option ℕ) (count : ℕ) where
  built_pair_to : {u v : ℕ} {was now : Tables} → PairBuilt r route count u v was now → PairBuilt q route count u v was now
  built_pair_to {u = u} {v = v} {was = was} {now = now} x =
      let placed : Placed q x.path (node_count r * u + v) x.level was now = record { lowest = lowest_to e x.placed.lowest; claimed = claimed_to e x.placed.claimed; told = x.placed.told } in
      record {
        path = x.path;
        level = x.level;
        walked = path_to e route x.walked;
        short = x.short;
        placed = subst (λ n. Placed q x.path (n * u + v) x.level was now) (same_count e) placed;
      }

  taken_to : (u v : ℕ) (was now : Tables) → Taken r route count u v was now → Taken q route count u v was now
  taken_to u v was now (inl x) = inl (pair_to e u v x.0, built_pair_to x.1)
  taken_to u v was now (inr x) = inr ((λ p. x.0 (pair_to (turned e) u v p)), x.1)

  receivers_to : (u n : ℕ) (was now : Tables) → Receivers r route count u n was now → Receivers q route count u n was now
  receivers_to u zero was now x = x
  receivers_to u (suc n) was now x = (x.0, receivers_to u n was x.0 x.1, taken_to u n x.0 now x.2)

  senders_to : (n : ℕ) (was now : Tables) → Senders r route count n was now → Senders q route count n was now
  senders_to zero was now x = x
  senders_to (suc n) was now x =
      (x.0, senders_to n was x.0 x.1, subst (λ m. Receivers q route count n m x.0 now) (same_count e) (receivers_to n (node_count r) x.0 now x.2))

  from_blank : (n : ℕ) (now : Tables) → Senders r route count n (blank r) now → Senders q route count n (blank q) now
  from_blank n now x = subst (λ b. Senders q route count n b now) (same_blank e) (senders_to n (blank r) now x)

  pub built_to : (now : Tables) → Built r route count now → Built q route count now
  built_to now x = subst (λ n. Senders q route count n (blank q) now) (same_count e) (from_blank (node_count r) now x)

-- and so is why a walk stops
module _ {r q : Rack} (e : Same r q) (route : ℕ → ℕ → Option ℕ) (p : Pair) where
  abbrev u : ℕ
  u = p.sender.0

  abbrev v : ℕ
  v = p.receiver.0

  reaches_to : (i : ℕ) (h : Hop) → Reaches (alone r route) 8 u v 0 i h → Reaches (alone q route) 8 u v 0 i h
  reaches_to i h x = (alone_to e route u v i h x.0, λ j k a b on. x.1 j k a b (alone_to (turned e) route u v j k on))

  stops_to : {o : Pair} {k : ℕ} {h : Hop} → Stops (alone r route) 8 p o 0 k h → Stops (alone q route) 8 p o 0 k h
  stops_to {o = o} {k = k} {h = h} x =
      record {
        told = x.told;
        pair = pair_to e u v x.pair;
        later = x.later;
        before = reaches_to (k - 1) h x.before;
        switch = over e (λ ns cs. entering ns cs h.channel ≡ true) x.switch;
      }

  below_to : (k : ℕ) → k < channel_count r → k < channel_count q
  below_to k x = over e (λ ns cs. k < channels cs) x

  walk_to : (f : WalkFault) → WalkStops (alone r route) 8 p 0 (channel_count r) f → WalkStops (alone q route) 8 p 0 (channel_count q) f
  walk_to (NoPair o) x = (x.0, λ pair. x.1 (pair_to (turned e) u v pair))
  walk_to (Endless o k) x = ((x.0.0, stops_to x.0.1), over e (λ ns cs. k ≡ channels cs) x.1)
  walk_to (NoChannel o k) x = ((x.0.0, stops_to x.0.1, x.0.2), below_to k x.1)
  walk_to (Elsewhere o k) x = let d = x.0.2 in ((x.0.0, stops_to x.0.1, (d.0, d.1, over e (λ ns cs. turning ns cs x.0.0.channel d.0 ≡ false) d.2)), below_to k x.1)
  walk_to (High o k) x = let h = x.1 in ((x.0.0, stops_to x.0.1), (h.0, alone_to e route u v k h.0 h.1, h.2), below_to k x.2)
  walk_to (OtherHost o k) x =
      let h = x.3 in
      let enters = over e (λ ns cs. (entering ns cs h.0.channel ≡ false) × ((head_end cs h.0.channel).node.0 ≡ v → ⊥)) (h.2, h.3) in
      (x.0, pair_to e u v x.1, below_to k x.2, (h.0, reaches_to k h.0 h.1, enters.0, enters.1))
  walk_to NoRoom x = absurd (omega (arith, x.1))

-- and so is what lacks
module _ {r q : Rack} (e : Same r q) (route : ℕ → ℕ → Option ℕ) (count : ℕ) where
  lacks_to : (p : Pair) (was : Tables) (f : BuildFault) → Lacks r route count p was f → Lacks q route count p was f
  lacks_to p was (Walk f) x = walk_to e route p f x
  lacks_to p was (Lane o) x = let h = x.1 in (x.0, (h.0, path_to e route h.1, h.2))
  lacks_to p was (Level o) x = let h = x.1 in (x.0, (h.0, path_to e route h.1, h.2, λ s l f. h.3 s l (fits_to (turned e) was.lanes h.0 s f)))
  lacks_to p was _ x = elim x [ ]

  pub lack_to : (f : BuildFault) → FirstLacks r route count f → FirstLacks q route count f
  lack_to f x =
      let row = x.row in
      let v = row.pair.receiver.0 in
      record {
        sender = x.sender;
        there = x.there;
        before = from_blank e route count x.sender x.there x.before;
        row = record {
          pair = row.pair;
          here = row.here;
          sender = row.sender;
          hosts = pair_to e x.sender v row.hosts;
          before = receivers_to e route count x.sender v x.there row.here row.before;
          lacks = lacks_to row.pair row.here f row.lacks;
        };
      }
