-- From what reading, making a rack and planning answer to what is printed. Assumes nothing.
use Rattle.std.proofs.Common.{◌≡◌, ℕ, ◌*◌, ◌≤◌, List, ◌++◌, length, take, drop, None, Ok, Err, Option, sym, refl, ◌∙◌, subst, inl, inr, arith}
use Rattle.std.proofs.lemmas.List.{take_all, take_at, take-take}
use Rattle.reading.specs.declared.add.Counts.{Counts}
use Rattle.rack.specs.declared.cable.Cable.{Cable}
use Rattle.rack.specs.declared.fault.RackFault.{RackFault}
use Rattle.rack.specs.declared.fault.RackFault.TheVariants.{Tables as Broken, Memory as NoRoom}
use Rattle.reading.specs.declared.limits.Limits.{Limits}
use Rattle.rack.specs.declared.rack.Rack.{Rack}
use Rattle.rack.specs.Network.{KeepsRules}
use Rattle.rack.specs.Racks.{nodes_of, cables_of, node_count, channel_count, Refuses}
use Rattle.reading.specs.Rules.{Answers}
use Rattle.routing.specs.Turns.{lane_bytes}
use Rattle.ranking.specs.Graphs.{Ranked}
use Rattle.checking.specs.declared.fault.CheckFault.TheVariants.{Tables, Memory}
use Rattle.checking.specs.Plans.{IsFollowedBy, AllFine}
use Rattle.checking.specs.Starts.{Long}
use Rattle.checking.specs.Answers.{TablesAt}
use Rattle.builder.specs.declared.fault.BuildFault.TheVariants.{Lanes as NoLanes, Tables as Short, Walk as NoPath, Lane as NoLane, Level as NoLevel, Memory as Unbuilt}
use Rattle.builder.specs.Method.{Tables as BuiltTables, tables, Built}
use Rattle.builder.specs.Outcomes.{LongEnough, needed}
use Rattle.planning.specs.declared.fault.PlanFault.{PlanFault}
use Rattle.planning.specs.declared.fault.PlanFault.TheVariants.{Build as NotBuilt, Check as NotChecked}
use Rattle.planning.specs.Plans.{planned, Planned}
use Rattle.report.specs.declared.refusal.Refusal.{Refusal}
use Rattle.report.specs.declared.refusal.Refusal.TheVariants.{Rack as Unmade}
use Rattle.report.specs.Text.{accepted_line}
use Rattle.report.specs.Refusals.{told, of_plan}
use Rattle.report.specs.Lines.{Adds, AllPrinted}
use Rattle.report.specs.Reports.{LetsIn, lane_count, Reads, Forwards, Refused, PlannedText, Untold, Unplanned, SomeLack}

-- what a vector shows, once all of it was written as a slice, is that slice
pub written : {T : Type 0} {now last : List T} {n : ℕ} (items : List T) → now ≡ take n (last ++ drop (length last) items) → length last ≡ n → now ≡ last
written {last = last} {n = n} items e long = e ∙ take_at last (drop (length last) items) n (omega (arith, long))

-- no rack is made of tables that keep the rules only for want of memory
pub unmade : (nodes : List ℕ) (cables : List Cable) (f : RackFault) → KeepsRules nodes cables → Refuses nodes cables f → told (Unmade f) ≡ None
unmade nodes cables Broken keeps h = absurd (h keeps)
unmade nodes cables NoRoom keeps h = refl

-- the tables have just the places that are needed
pub record Fitting (r : Rack) (now : BuiltTables) : Type 0 where
  pub lanes : length now.lanes ≡ lane_bytes (channel_count r)
  pub levels : length now.levels ≡ node_count r * node_count r

whole : {r : Rack} {now : BuiltTables} → Fitting r now → needed r now ≡ now
whole {r = r} {now = now} fit = λ i. tables (take_all (lane_bytes (channel_count r)) now.lanes (omega (arith, fit.lanes)) i) (take_all (node_count r * node_count r) now.levels (omega (arith, fit.levels)) i)

-- the text of tables that were built and accepted
pub planned_text :
    {r : Rack} {route : ℕ → ℕ → Option ℕ} {now : BuiltTables} {greatest : ℕ} {was ranks text : List ℕ} → Fitting r now → Built r route lane_count (needed r now) →
    AllFine (planned r route now.lanes) now.levels lane_count → Ranked (IsFollowedBy (planned r route now.lanes) now.levels) (8 * channel_count r) greatest was ranks →
    Adds (AllPrinted (planned r route now.lanes) now.levels) (accepted_line greatest) text → PlannedText r route text
planned_text {r = r} {route = route} {now = now} {greatest = greatest} {ranks = ranks} fit built fine ranked p =
    record {
      lanes = now.lanes;
      levels = now.levels;
      greatest = greatest;
      ranks = ranks;
      lines = p.0;
      built = subst (Built r route lane_count) (whole fit) built;
      sound = record { pairs = fine; no_ring = ranked.free };
      ranked = record { free = ranked.free; ranks = ranked.ranks; most = ranked.most; peak = ranked.peak; none = ranked.none; rest = λ i l. refl };
      printed = p.1;
      whole = p.2;
    }

module _ (r : Rack) (route : ℕ → ℕ → Option ℕ) (was now : BuiltTables) (before after : TablesAt) where
  -- why there is no plan, where the tables are long enough
  pub unplanned : (f : PlanFault) → LongEnough r was → Long r (length now.levels) (length before.dependencies) (length before.ranks) (length before.ring) → Planned r route lane_count was now before after (Err f) → Unplanned r route (of_plan f)
  unplanned (NotBuilt NoLanes) long longer h = absurd (h.0.0 (omega arith, omega arith))
  unplanned (NotBuilt Short) long longer h = absurd (h.0.1 long)
  unplanned (NotBuilt (NoPath f)) long longer h = inr (NoPath f, refl, h.0.3)
  unplanned (NotBuilt (NoLane p)) long longer h = inr (NoLane p, refl, h.0.3)
  unplanned (NotBuilt (NoLevel p)) long longer h = inr (NoLevel p, refl, h.0.3)
  unplanned (NotBuilt Unbuilt) long longer h = inl refl
  unplanned (NotChecked Tables) long longer h = absurd (h.2 longer)
  unplanned (NotChecked Memory) long longer h = inl refl
  unplanned (NotChecked _) long longer h = absurd h.2

-- what lacks over a forwarding lacks over one of those that are told
pub lack_from : (r : Rack) (route : ℕ → ℕ → Option ℕ) (R : (ℕ → ℕ → Option ℕ) → Type 0) (f : Refusal) → R route → Unplanned r route f → SomeLack r R f
lack_from r route R f h (inl n) = inl n
lack_from r route R f h (inr b) = inr (route, b.0, h, b.1, b.2)

pub lack_weaker : (r : Rack) (P R : (ℕ → ℕ → Option ℕ) → Type 0) (f : Refusal) → ((route : ℕ → ℕ → Option ℕ) → P route → R route) → SomeLack r P f → SomeLack r R f
lack_weaker r P R f to (inl n) = inl n
lack_weaker r P R f to (inr b) = inr (b.0, b.1, to b.0 b.2, b.3, b.4)

-- what was read into tables of the lengths needed, and the rack made of them
pub reads :
    (most_nodes most_cables : ℕ) (file : List ℕ) (limits : Limits) (counts : Counts) (nodes : List ℕ) (cables : List Cable) (forwarding : List ℕ) (r : Rack) →
    LetsIn most_nodes most_cables limits → (counts.nodes ≤ 128) × (counts.cables ≤ 256) → length forwarding ≡ 16384 →
    Answers limits file (Ok counts) (take 128 nodes) (take 256 cables) (take 16384 forwarding) → nodes_of r ≡ take counts.nodes nodes → cables_of r ≡ take counts.cables cables →
    Reads most_nodes most_cables file r counts.entries forwarding
reads most_nodes most_cables file limits counts nodes cables forwarding r lets few long answers n c =
    let same : take 16384 forwarding ≡ forwarding = take_all 16384 forwarding (omega arith) in
    record {
      limits = limits;
      counts = counts;
      nodes = take 128 nodes;
      cables = take 256 cables;
      lets_in = lets;
      answers = subst (Answers limits file (Ok counts) (take 128 nodes) (take 256 cables)) same answers;
      all_nodes = n ∙ sym (take-take counts.nodes 128 nodes few.0);
      all_cables = c ∙ sym (take-take counts.cables 256 cables few.1);
      all_entries = refl;
    }

-- why there is no text, where the file was read
pub untold : (file : List ℕ) (r : Rack) (entries : ℕ) (forwarding : List ℕ) (f : Refusal) → Reads 12 16 file r entries forwarding → SomeLack r (Forwards r entries forwarding) f → Untold file f
untold file r entries forwarding f read (inl n) = inl n
untold file r entries forwarding f read (inr b) = inr (subst (Refused file) (sym b.3) (r, b.0, (entries, forwarding, read, b.2), b.4))
