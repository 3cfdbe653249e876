-- A file has one text. Assumes nothing.
use Rattle.std.proofs.Common.{◌≡◌, ℕ, zero, suc, ◌+◌, ◌*◌, ◌<◌, ◌≤◌, List, ◌++◌, get_or, Ok, Err, Option, sym, ap, ◌∙◌, subst, inl, inr, arith}
use Rattle.std.proofs.lemmas.Option.{same_Some}
use Rattle.reading.specs.declared.fault.FileFault.{FileFault}
use Rattle.reading.specs.declared.limits.Limits.{Limits}
use Rattle.rack.specs.declared.cable.Cable.{Cable}
use Rattle.rack.specs.declared.rack.Rack.{Rack}
use Rattle.rack.specs.Network.{channels}
use Rattle.rack.specs.Racks.{node_count, channel_count}
use Rattle.reading.specs.Rules.{Answers}
use Rattle.rack_laws.proofs.OneAnswer.{one_answer}
use Rattle.ranking.specs.Graphs.{Ranked}
use Rattle.ranking.proofs.Chains.{one_rank, rank_same}
use Rattle.routing.specs.Paths.{Routing, Hop, PairOf, OnPath, EndsAtHop}
use Rattle.routing.proofs.Hops.{hop_last, from_first}
use Rattle.checking.specs.Plans.{level_at, IsFollowedBy}
use Rattle.builder.specs.declared.fault.BuildFault.{BuildFault}
use Rattle.builder.specs.Method.{Tables, tables, blank}
use Rattle.builder.specs.Outcomes.{FirstLacks}
use Rattle.routing.proofs.Rounds.{into_host}
use Rattle.builder.proofs.Single.{one_all, one_first, built_lacks}
use Rattle.planning.specs.Plans.{planned}
use Rattle.report.specs.declared.refusal.Refusal.{Refusal}
use Rattle.report.specs.declared.refusal.Refusal.TheVariants.{File, Build}
use Rattle.report.specs.Text.{pair_line, accepted_line, refused_line}
use Rattle.report.specs.Refusals.{told}
use Rattle.report.specs.Lines.{Adds, LineOf, Printed, ReceiversPrinted, SendersPrinted, AllPrinted}
use Rattle.report.specs.Reports.{lane_count, Gives, Refused, PlannedText, RefusedText, AcceptedText}
use Rattle.report.specs.Laws.{OneText}
use Rattle.report.proofs.SameRacks.{Same, turned, same_count, same_lanes, pair_to, on_to, ends_to, built_to, lack_to}
use Rattle.report.proofs.SameRoutes.{same_limits, same_forwarding}

-- a path ends at one hop
no_later : (g : Routing) (u v s m n : ℕ) → PairOf g.rack u v → EndsAtHop g u v s m → EndsAtHop g u v s n → m < n → ⊥
no_later g u v s m n pair a b l =
    let on = a.1 in
    hop_last g v s on.0 m n a.0 b.0 on.2 (into_host g a.0.channel v pair.1 a.3) l (from_first g u v s on.0 n b.0 pair.0 on.1 b.1)

one_end : (g : Routing) (u v s m n : ℕ) → PairOf g.rack u v → EndsAtHop g u v s m → EndsAtHop g u v s n → m ≡ n
one_end g u v s m n pair a b =
    let before = no_later g u v s m n pair a b in
    let behind = no_later g u v s n m pair b a in
    omega (arith, before, behind)

-- two relations that are the same have one greatest rank
module _ {f h : ℕ → ℕ → Type 0} (to : (x y : ℕ) → f x y → h x y) (from : (x y : ℕ) → h x y → f x y) where
  most_ranked : {n a b : ℕ} {s t : List ℕ} → Ranked f n a s s → Ranked h n b t t → 0 < n → a ≤ b
  most_ranked {s = s} {t = t} x y some =
      let p = x.peak some in
      let same : get_or s p.0 0 ≡ get_or t p.0 0 = one_rank h p.0 (get_or s p.0 0) (get_or t p.0 0) (rank_same f h to from p.0 (get_or s p.0 0) (x.ranks p.0 p.1)) (y.ranks p.0 p.1) in
      omega (arith, y.most p.0 p.1, p.2)

one_greatest : {f h : ℕ → ℕ → Type 0} → ((x y : ℕ) → f x y → h x y) → ((x y : ℕ) → h x y → f x y) → {n a b : ℕ} {s t : List ℕ} → Ranked f n a s s → Ranked h n b t t → a ≡ b
one_greatest to from x y =
    let up = most_ranked to from x y in
    let down = most_ranked from to y x in
    grind (arith, up, down, x.none, y.none)

-- what follows what, and the lines, are the same on two racks with the same nodes and cables
same_level : {r q : Rack} → Same r q → (levels : List ℕ) (u v : ℕ) → level_at r levels u v ≡ level_at q levels u v
same_level e levels u v = ap (λ n. get_or levels (n * u + v) 0) (same_count e)

-- hops at the pair's level
planned_to : {r q : Rack} → Same r q → (route : ℕ → ℕ → Option ℕ) (lanes levels : List ℕ) (u v i : ℕ) (h : Hop) → OnPath (planned r route lanes) u v (level_at r levels u v) i h → OnPath (planned q route lanes) u v (level_at q levels u v) i h
planned_to {r = r} {q = q} e route lanes levels u v i h on =
    subst (λ t. OnPath (planned q route lanes) u v t i h) (same_level e levels u v) (on_to e route (same_lanes e lanes) u v (level_at r levels u v) i h on)

follows_to : {r q : Rack} → Same r q → (route : ℕ → ℕ → Option ℕ) (lanes levels : List ℕ) (x y : ℕ) → IsFollowedBy (planned r route lanes) levels x y → IsFollowedBy (planned q route lanes) levels x y
follows_to e route lanes levels x y f =
    record {
      sender = f.sender;
      receiver = f.receiver;
      place = f.place;
      one = f.one;
      other = f.other;
      pair = pair_to e f.sender f.receiver f.pair;
      uses = planned_to e route lanes levels f.sender f.receiver f.place f.one f.uses;
      then = planned_to e route lanes levels f.sender f.receiver (suc f.place) f.other f.then;
      from = f.from;
      to = f.to;
    }

-- what is put behind one text
one_added : {P Q : List ℕ → Type 0} {x y : List ℕ} → x ≡ y → ((c d : List ℕ) → P c → Q d → c ≡ d) → (a b : List ℕ) → Adds P x a → Adds Q y b → a ≡ b
one_added same one a b s t = let more = one s.0 t.0 s.1 t.1 in s.2 ∙ (λ i. same i ++ more i) ∙ sym t.2

module _ {r q : Rack} (e : Same r q) (route : ℕ → ℕ → Option ℕ) (lanes levels : List ℕ) where
  abbrev R : Routing
  R = planned r route lanes

  abbrev Q : Routing
  Q = planned q route lanes

  one_line : (u v : ℕ) (a b : List ℕ) → PairOf q u v → LineOf R levels u v a → LineOf Q levels u v b → a ≡ b
  one_line u v a b pair x y =
      let s = level_at r levels u v in
      let l = same_level e levels u v in
      let ends = subst (λ t. EndsAtHop Q u v t x.0) l (ends_to e route (same_lanes e lanes) u v s x.0 x.1) in
      let n : x.0 ≡ y.0 = one_end Q u v (level_at q levels u v) x.0 y.0 pair ends y.1 in
      x.2 ∙ ap (λ t. pair_line u v t (x.0 + 1)) l ∙ ap (λ k. pair_line u v (level_at q levels u v) (k + 1)) n ∙ sym y.2

  one_printed : (u v : ℕ) (a b : List ℕ) → Printed R levels u v a → Printed Q levels u v b → a ≡ b
  one_printed u v a b (inl x) (inl y) = one_line u v a b y.0 x.1 y.1
  one_printed u v a b (inl x) (inr y) = absurd (y.0 (pair_to e u v x.0))
  one_printed u v a b (inr x) (inl y) = absurd (x.0 (pair_to (turned e) u v y.0))
  one_printed u v a b (inr x) (inr y) = x.1 ∙ sym y.1

  one_row : (u n : ℕ) (a b : List ℕ) → ReceiversPrinted R levels u n a → ReceiversPrinted Q levels u n b → a ≡ b
  one_row u zero a b x y = x ∙ sym y
  one_row u (suc n) a b x y = one_added (one_row u n x.0 y.0 x.1 y.1) (one_printed u n) a b x.2 y.2

  one_list : (n : ℕ) (a b : List ℕ) → SendersPrinted R levels n a → SendersPrinted Q levels n b → a ≡ b
  one_list zero a b x y = x ∙ sym y
  one_list (suc n) a b x y =
      one_added (one_list n x.0 y.0 x.1 y.1) (λ c d s t. one_row n (node_count q) c d (subst (λ m. ReceiversPrinted R levels n m c) (same_count e) s) t) a b x.2 y.2

  pub one_lines : (a b : List ℕ) → AllPrinted R levels a → AllPrinted Q levels b → a ≡ b
  one_lines a b x y = one_list (node_count q) a b (subst (λ n. SendersPrinted R levels n a) (same_count e) x) y

one_plan : {r q : Rack} → Same r q → (route : ℕ → ℕ → Option ℕ) (a b : List ℕ) → PlannedText r route a → PlannedText q route b → a ≡ b
one_plan {r = r} {q = q} e route a b x y =
    let t : tables y.lanes y.levels ≡ tables x.lanes x.levels = one_all q route lane_count (node_count q) (blank q) (tables y.lanes y.levels) (tables x.lanes x.levels) y.built (built_to e route lane_count (tables x.lanes x.levels) x.built) in
    let n : 8 * channel_count r ≡ 8 * channel_count q = ap (λ (cs : List Cable). 8 * channels cs) e.cables in
    let ranked : Ranked (IsFollowedBy (planned r route x.lanes) x.levels) (8 * channel_count q) x.greatest x.ranks x.ranks = subst (λ m. Ranked (IsFollowedBy (planned r route x.lanes) x.levels) m x.greatest x.ranks x.ranks) n x.ranked in
    let its : Ranked (IsFollowedBy (planned q route x.lanes) x.levels) (8 * channel_count q) y.greatest y.ranks y.ranks = subst (λ (z : Tables). Ranked (IsFollowedBy (planned q route z.lanes) z.levels) (8 * channel_count q) y.greatest y.ranks y.ranks) t y.ranked in
    let top : x.greatest ≡ y.greatest = one_greatest (follows_to e route x.lanes x.levels) (follows_to (turned e) route x.lanes x.levels) ranked its in
    let lines : x.lines ≡ y.lines = one_lines e route x.lanes x.levels x.lines y.lines x.printed (subst (λ (z : Tables). AllPrinted (planned q route z.lanes) z.levels y.lines) t y.printed) in
    x.whole ∙ (λ i. accepted_line (top i) ++ lines i) ∙ sym y.whole

module _ (file : List ℕ) where
  -- a file that is refused for a fault of its own is not accepted
  not_given : (f : FileFault) (r : Rack) (route : ℕ → ℕ → Option ℕ) → Refused file (File f) → Gives file r route → ⊥
  not_given f r route a b =
      let read = b.2 in
      let again = subst (λ (l : Limits). Answers l file (Ok read.counts) read.nodes read.cables b.1) (same_limits read.limits a.0 read.lets_in a.4) read.answers in
      let same = one_answer a.0 file (Err f) (Ok read.counts) a.1 read.nodes a.2 read.cables a.3 b.1 a.5 again in
      cc

  one_fault : (f h : FileFault) → Refused file (File f) → Refused file (File h) → f ≡ h
  one_fault f h a b =
      let again = subst (λ (l : Limits). Answers l file (Err h) b.1 b.2 b.3) (same_limits b.0 a.0 b.4 a.4) b.5 in
      let same = one_answer a.0 file (Err f) (Err h) a.1 b.1 a.2 b.2 a.3 b.3 a.5 again in
      cc

  -- what lacks over one reading of the file lacks over any other
  lack_given : (f : BuildFault) (q : Rack) (route : ℕ → ℕ → Option ℕ) → Refused file (Build f) → Gives file q route → FirstLacks q route lane_count f
  lack_given f q route a b =
      let s = same_forwarding file a.0 q a.1 route a.2 b in
      subst (λ (o : ℕ → ℕ → Option ℕ). FirstLacks q o lane_count f) s.1 (lack_to s.0 a.1 lane_count f a.3)

  one_refusal : (f h : Refusal) → Refused file f → Refused file h → f ≡ h
  one_refusal (File f) (File h) a b = ap File (one_fault f h a b)
  one_refusal (File f) (Build h) a b = absurd (not_given f b.0 b.1 a b.2)
  one_refusal (File f) _ a b = elim b [ ]
  one_refusal (Build f) (File h) a b = absurd (not_given h a.0 a.1 b a.2)
  one_refusal (Build f) (Build h) a b = ap Build (one_first b.0 b.1 lane_count f h (lack_given f b.0 b.1 a b.2) b.3)
  one_refusal (Build f) _ a b = elim b [ ]
  one_refusal _ h a b = elim a [ ]

  not_refused : (f : Refusal) (text : List ℕ) → Refused file f → AcceptedText file text → ⊥
  not_refused (File f) text a b = not_given f b.0 b.1 a b.2
  not_refused (Build f) text a b = let p = b.3 in built_lacks b.0 b.1 lane_count (tables p.lanes p.levels) f p.built (lack_given f b.0 b.1 a b.2)
  not_refused _ text a b = elim a [ ]

  one_refused : (one other : List ℕ) → RefusedText file one → RefusedText file other → one ≡ other
  one_refused one other a b =
      let same : a.1 ≡ b.1 = same_Some a.1 b.1 (sym a.3 ∙ ap told (one_refusal a.0 b.0 a.2 b.2) ∙ b.3) in
      a.4 ∙ ap refused_line same ∙ sym b.4

  one_accepted : (one other : List ℕ) → AcceptedText file one → AcceptedText file other → one ≡ other
  one_accepted one other a b =
      let s = same_forwarding file a.0 b.0 a.1 b.1 a.2 b.2 in
      one_plan s.0 b.1 one other (subst (λ (o : ℕ → ℕ → Option ℕ). PlannedText a.0 o one) s.1 a.3) b.3

pub one_text : OneText
one_text file one other (inl a) (inl b) = one_refused file one other a b
one_text file one other (inl a) (inr b) = absurd (not_refused file a.0 other a.2 b)
one_text file one other (inr a) (inl b) = absurd (not_refused file b.0 one b.2 a)
one_text file one other (inr a) (inr b) = one_accepted file one other a b
