-- Plans of one lane over a source that goes up and then down are sound, and accepted. Assumes nothing.
use Rattle.std.proofs.Common.{◌≡◌, ℕ, zero, suc, ◌+◌, ◌*◌, ◌<◌, Ok, Err, min, true, false, leb, List, length, Option, refl, sym, ap, ◌∙◌, ⊎_elim, arith}
use Rattle.std.proofs.lemmas.Bool.{cases_Bool, cond-true, cond-false}
use Rattle.std.proofs.lemmas.Option.{same_Some}
use Rattle.rack.specs.declared.rack.Rack.{Rack}
use Rattle.rack.specs.Racks.{node_count, channel_count, tail_port, Switch}
use Rattle.rack.proofs.Facts.{tail_port_within, host_below, switch_below}
use Rattle.routing.specs.Turns.{turns, row_start, row_lane, stored_lane, lane_bytes}
use Rattle.routing.specs.Paths.{Routing, routing, Hop, hop_at, PairOf, OnPath}
use Rattle.routing.proofs.Columns.{pair_below}
use Rattle.routing.proofs.Hops.{came}
use Rattle.routing.proofs.Tests.{entered, turns_below, turns_enters}
use Rattle.checking.specs.Plans.{level_at, On, Sound}
use Rattle.checking.proofs.Final.{fine_accepted}
use Rattle.up_down.specs.declared.fault.UpDownFault.{UpDownFault}
use Rattle.up_down.specs.declared.fault.UpDownFault.TheVariants.{Root, Unreachable, Memory}
use Rattle.up_down.specs.Ways.{Connected}
use Rattle.up_down.specs.Sources.{IsUpDown, Refuses, up_down_route}
use Rattle.up_down.specs.Laws.{Zeros, ZeroTables, Accepts, UpDownAccepted, AcceptedWhereAllConnect}
use Rattle.up_down.proofs.Delivering.{delivered}
use Rattle.up_down.proofs.Ordering.{no_ring}

-- the stored map of a table of zeros has lane 0 everywhere
stored_zero : (r : Rack) (table : List ℕ) → Zeros (lane_bytes (channel_count r)) table → (c d s : ℕ) → s < 16 → stored_lane r table c d s ≡ 0
stored_zero r table zeros c d s small =
    ⊎_elim
    (λ (t : turns r c d ≡ true). cond-true _ _ _ t ∙ row_zero t)
    (λ (t : turns r c d ≡ false). cond-false _ _ _ t)
    (cases_Bool (turns r c d))
  where
    row_zero : turns r c d ≡ true → row_lane table (row_start c (tail_port r d)) s ≡ 0
    row_zero turn =
        let at = row_start c (tail_port r d) in
        let low = (entered r c (turns_enters r c d turn)).0 in
        let port = tail_port_within r d (turns_below r c d turn) in
        ⊎_elim
        (λ (t : leb (at + 16) (length table) ≡ true). cond-true _ _ _ t ∙ ap (λ n. min n 7) (zeros (at + s) (omega (arith, low, port.0, port.1))))
        (λ (t : leb (at + 16) (length table) ≡ false). cond-false _ _ _ t)
        (cases_Bool (leb (at + 16) (length table)))

-- where a map has lane 0 everywhere, so have all hops
hop_zero : (g : Routing) → ((c d s : ℕ) → s < 16 → g.lane c d s ≡ 0) → (u v s i : ℕ) (h : Hop) → s < 16 → OnPath g u v s i h → h.lane ≡ 0
hop_zero g all u v s zero h small on = ap (λ (x : Hop). x.lane) (sym (same_Some _ _ on.2))
hop_zero g all u v s (suc i) h small on = let b = came g v s (hop_at g on.0 v s i) h on.2 in ap (λ (x : Hop). x.lane) b.3.3 ∙ all b.0.channel b.3.0 s small

module _ (r : Rack) (root : ℕ) (route : ℕ → ℕ → Option ℕ) (lanes levels : List ℕ) (over : IsUpDown r root route) (zeros : ZeroTables r lanes levels) where
  abbrev plan : Routing
  plan = routing r route (stored_lane r lanes)

  level_zero : (u v : ℕ) → PairOf r u v → level_at r levels u v ≡ 0
  level_zero u v pair = zeros.1 (node_count r * u + v) (pair_below (node_count r) u v (host_below r u pair.0) (host_below r v pair.1))

  lane_zero : (u v i : ℕ) (h : Hop) → PairOf r u v → On plan levels u v i h → h.lane ≡ 0
  lane_zero u v i h pair on = hop_zero plan (stored_zero r lanes zeros.0) u v (level_at r levels u v) i h (omega (arith, level_zero u v pair)) on

  -- one lane and level 0 are enough for such a source
  sound : Sound plan levels 1
  sound = record {
    pairs = λ u v pair. record {
      level = omega (arith, level_zero u v pair);
      arrives = delivered plan root over.tier over.tiers over.switch over.names u v (level_at r levels u v) pair;
      low = λ i h on. omega (arith, lane_zero u v i h pair on);
    };
    no_ring = no_ring plan over.tier over.names levels lane_zero;
  }

  -- and the check accepts it
  accepts : Accepts plan levels
  accepts = record { sound = sound; accepted = λ before after a starts checked. fine_accepted plan levels 1 before after a checked starts sound.pairs sound.no_ring }

pub up_down_accepted : UpDownAccepted
up_down_accepted = accepts

-- where all nodes connect none is out of reach of the root
only_memory : (r : Rack) (root : ℕ) (f : UpDownFault) → Connected r → Switch r root → Refuses r root f → f ≡ Memory
only_memory r root (Root v) all switch h = absurd (h.1 switch)
only_memory r root (Unreachable v) all switch h = let way = all root v.0 (switch_below r root switch) h.1 in absurd (h.2 way.0 way.1)
only_memory r root Memory all switch h = refl

pub accepted_where_all_connect : AcceptedWhereAllConnect
accepted_where_all_connect r root (Ok s) lanes levels all switch made zeros = accepts r root (up_down_route s) lanes levels made.1 zeros
accepted_where_all_connect r root (Err f) lanes levels all switch made zeros = only_memory r root f all switch made
