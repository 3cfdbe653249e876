-- From the parts of the check to its answer. Assumes nothing.
use Rattle.std.proofs.Common.{◌≡◌, ℕ, ◌+◌, ◌*◌, ◌/◌, ◌%◌, ◌<◌, ◌≤◌, true, ◌⊎◌, ⊎_elim, ◌↔◌, List, ◌++◌, length, get_or, drop, is_ok, Ok, Err, Result, sym, refl, ap, ◌∙◌, subst, inl, inr, arith, eqb-true}
use Rattle.std.proofs.lemmas.List.{get_or_append_left}
use Rattle.rack.specs.Racks.{channel_count, head, tail, tail_port}
use Rattle.routing.specs.Turns.{turn_count, turn_place}
use Rattle.routing.specs.Paths.{Routing, Hop, PairOf, OnPath, Delivered}
use Rattle.checking.specs.declared.acceptance.Acceptance.{Acceptance}
use Rattle.checking.specs.declared.fault.CheckFault.{CheckFault}
use Rattle.checking.specs.declared.fault.CheckFault.TheVariants.{Lanes, Tables, Level, Walk, Ring, Memory}
use Rattle.checking.specs.Words.{bit, word_of, FollowedBy, ChannelFollowedBy}
use Rattle.checking.specs.Starts.{Long, StartRefused}
use Rattle.routing.specs.declared.pair.Pair.{Pair}
use Rattle.routing.specs.declared.fault.WalkFault.{WalkFault}
use Rattle.routing.specs.declared.fault.WalkFault.TheVariants.{NoPair, Endless, NoChannel, Elsewhere, Lane, OtherHost, Memory as NoMemory}
use Rattle.routing.specs.Sources.{enters_switch}
use Rattle.routing.specs.Walks.{WalkStops}
use Rattle.routing.proofs.Determined.{stopped_undelivered}
use Rattle.routing.proofs.Tests.{both_snd, turns_below, turns_enters, entered}
use Rattle.std.proofs.lemmas.Bool.{both_ways, cond-true}
use Rattle.ranking.specs.declared.faults.RankFault.{RankFault}
use Rattle.ranking.specs.declared.faults.RankFault.TheVariants.{Tables as ShortTables, Ring as RingFound}
use Rattle.ranking.specs.Graphs.{NoRing, Room, Ranked, Answered}
use Rattle.ranking.proofs.Chains.{no_ring_from_rise, ranks_rise}
use Rattle.rack.specs.declared.rack.Rack.{Rack}
use Rattle.checking.specs.Plans.{FirstFault, level_at, IsFollowedBy, AllFine, Sound}
use Rattle.checking.proofs.Scans.{bit_zero, followed_turns}
use Rattle.checking.proofs.Rising.{rising_free}
use Rattle.checking.specs.Marks.{AllSay, Collected, Settled}
use Rattle.checking.specs.Faults.{rank_refusal}
use Rattle.checking.specs.Answers.{BareChecked, TablesAt, tables_at, Starts, Checked, Accepted, ExactlySound, RisingAccepted}
use Rattle.checking.proofs.Exactness.{exact, ranked_to, ringed_to}

module _ (g : Routing) (levels : List ℕ) (lanes : ℕ) where
  pub start_to : (t : TablesAt) (f : CheckFault) → StartRefused lanes (Long g.rack (length levels) (length t.dependencies) (length t.ranks) (length t.ring)) f → Checked g levels lanes t t (Err f)
  start_to t Lanes h = (h, refl)
  start_to t Tables h = (h.0, (λ s. h.1 s.1), refl)
  start_to t (Level p) h = absurd h
  start_to t (Walk f) h = absurd h
  start_to t (Ring n) h = absurd h
  start_to t Memory h = absurd h

  first_to : (t : TablesAt) (f : CheckFault) → Starts g levels lanes t → FirstFault g levels lanes f → Checked g levels lanes t t (Err f)
  first_to t Lanes s h = absurd h.3
  first_to t Tables s h = absurd h.3
  first_to t (Level p) s h = (s, h, refl)
  first_to t (Walk f) s h = (s, h, refl)
  first_to t (Ring n) s h = absurd h.3
  first_to t Memory s h = absurd h.3

  pub fault_to : (t : TablesAt) (f : CheckFault) → Starts g levels lanes t → (f ≡ Memory) ⊎ FirstFault g levels lanes f → Checked g levels lanes t t (Err f)
  fault_to t f s (inl e) = subst (λ (x : CheckFault). Checked g levels lanes t t (Err x)) (sym e) (s, refl)
  fault_to t f s (inr h) = first_to t f s h

  module _ (before : TablesAt) (marks part post t v : List ℕ) (s : Starts g levels lanes before) (m : Collected g levels lanes marks) (is : part ≡ marks) (beyond : drop (turn_count (channel_count g.rack)) (part ++ post) ≡ drop (turn_count (channel_count g.rack)) before.dependencies) where
    marked : (k b : ℕ) → k < turn_count (channel_count g.rack) → (bit (get_or (part ++ post) k 0) b ≡ true ↔ AllSay g levels k b)
    marked k b l =
        let long : length part ≡ turn_count (channel_count g.rack) = ap length is ∙ m.1 in
        let same : get_or (part ++ post) k 0 ≡ get_or marks k 0 = get_or_append_left part post 0 k (omega arith) ∙ ap (λ xs. get_or xs k 0) is in
        (λ h. (m.2 k b).0 (ap (λ n. bit n b) (sym same) ∙ h), λ h. ap (λ n. bit n b) same ∙ (m.2 k b).1 h)

    pub settled_to : (r : Result Acceptance CheckFault) → Settled g.rack (part ++ post) before.ranks t before.ring v r → Checked g levels lanes before (tables_at (part ++ post) t v) r
    settled_to (Ok a) h =
        (s, m.0, (exact g levels lanes s.0.1 m.0 (part ++ post) marked, beyond), ranked_to g levels lanes s.0.1 m.0 (part ++ post) marked _ _ _ _ h.0, h.1)
    settled_to (Err (Ring n)) h =
        (s, m.0, (exact g levels lanes s.0.1 m.0 (part ++ post) marked, beyond), ringed_to g levels lanes s.0.1 m.0 (part ++ post) marked _ _ _ _ _ _ h)
    settled_to (Err Lanes) h = absurd h
    settled_to (Err Tables) h = absurd h
    settled_to (Err (Level p)) h = absurd h
    settled_to (Err (Walk f)) h = absurd h
    settled_to (Err Memory) h = absurd h

module _ (g : Routing) (levels : List ℕ) (lanes : ℕ) (before after : TablesAt) where
  -- a path at fault is not delivered below the lane count
  faulty : (p : Pair) (s : ℕ) (f : WalkFault) → PairOf g.rack p.sender.0 p.receiver.0 → Delivered g p.sender.0 p.receiver.0 s → ((i : ℕ) (h : Hop) → OnPath g p.sender.0 p.receiver.0 s i h → h.lane < lanes) → WalkStops g lanes p s (channel_count g.rack) f → ⊥
  faulty p s (NoPair q) pair arrives low h = h.1 pair
  faulty p s (Endless q k) pair arrives low h = stopped_undelivered g lanes p s (channel_count g.rack) (Endless q k) h tt arrives
  faulty p s (NoChannel q k) pair arrives low h = stopped_undelivered g lanes p s (channel_count g.rack) (NoChannel q k) h tt arrives
  faulty p s (Elsewhere q k) pair arrives low h = stopped_undelivered g lanes p s (channel_count g.rack) (Elsewhere q k) h tt arrives
  faulty p s (Lane q k) pair arrives low h = let x = h.1 in omega (arith, low k x.0 x.1, x.2)
  faulty p s (OtherHost q k) pair arrives low h = stopped_undelivered g lanes p s (channel_count g.rack) (OtherHost q k) h tt arrives
  faulty p s NoMemory pair arrives low h = omega (arith, h.1)

  -- where all pairs are fine, nothing but a ring or want of memory stands against acceptance
  pub fine_accepted : (r : Result Acceptance CheckFault) → Checked g levels lanes before after r → Starts g levels lanes before → AllFine g levels lanes → NoRing (IsFollowedBy g levels) → Accepted r
  fine_accepted (Ok a) h s fine free = inl refl
  fine_accepted (Err (Ring n)) h s fine free = absurd (free _ n h.3.ring)
  fine_accepted (Err Memory) h s fine free = inr refl
  fine_accepted (Err Lanes) h s fine free = absurd (h.0 s.0)
  fine_accepted (Err Tables) h s fine free = absurd (h.1 s)
  fine_accepted (Err (Level q)) h s fine free =
      let x = h.1 in
      let ok = fine x.0.sender.0 x.0.receiver.0 x.1 in
      absurd (omega (arith, ok.level, x.3.1))
  fine_accepted (Err (Walk f)) h s fine free =
      let x = h.1 in
      let ok = fine x.0.sender.0 x.0.receiver.0 x.1 in
      absurd (faulty x.0 (level_at g.rack levels x.0.sender.0 x.0.receiver.0) f x.1 ok.arrives ok.low x.3.1)

  accepted_sound : (r : Result Acceptance CheckFault) → Checked g levels lanes before after r → is_ok r ≡ true → Sound g levels lanes
  accepted_sound (Ok a) h e = record { pairs = h.1; no_ring = h.3.free }
  accepted_sound (Err f) h e = let z : ◌≡◌ {A = ℕ} 0 1 = cc in absurd (omega arith)

  exactly_sound : (r : Result Acceptance CheckFault) → Checked g levels lanes before after r → ExactlySound g levels lanes before r
  exactly_sound r h = (accepted_sound r h, λ s sound. fine_accepted r h s sound.pairs sound.no_ring)

  rising_accepted : (r : Result Acceptance CheckFault) → Checked g levels lanes before after r → RisingAccepted g levels lanes before r
  rising_accepted r h s fine rises = fine_accepted r h s fine (rising_free g levels lanes s.0.1 fine rises)

  -- the three clauses of the check
  pub clauses :
      (r : Result Acceptance CheckFault) → Checked g levels lanes before after r →
      record { answer : Checked g levels lanes before after r; sound : ExactlySound g levels lanes before r; rising : RisingAccepted g levels lanes before r }
  clauses r h = record { answer = h; sound = exactly_sound r h; rising = rising_accepted r h }

-- a numbering of channels that rises along the bare graph rises along the graph over lanes
pub bare_free : (r : Rack) (table : List ℕ) (n top : ℕ) (s t : List ℕ) → n ≡ channel_count r → Ranked (ChannelFollowedBy r table) n top s t → NoRing (FollowedBy r table)
bare_free r table n top s t size ranked =
    no_ring_from_rise (FollowedBy r table) (λ x. get_or t (x / 8) 0)
    (λ x y f.
    let turn = followed_turns r table x y f in
    let sw = entered r (x / 8) (turns_enters r (x / 8) (y / 8) turn) in
    let ld = turns_below r (x / 8) (y / 8) turn in
    let leaves = eqb-true (tail r (y / 8)) (head r (x / 8)) (both_snd _ _ (both_snd (enters_switch r (x / 8)) _ turn)) in
    let word : word_of r table (x / 8) (y / 8) ≡ get_or table (turn_place (x / 8) (tail_port r (y / 8))) 0 = cond-true _ _ _ turn in
    ranks_rise (ChannelFollowedBy r table) (x / 8) (y / 8) _ _ (ranked.ranks (x / 8) (omega (arith, sw.0))) (ranked.ranks (y / 8) (omega arith))
    (sw.0, ld, leaves, λ none. both_ways (bit (word_of r table (x / 8) (y / 8)) (8 * (x % 8) + y % 8)) (ap (λ w. bit w (8 * (x % 8) + y % 8)) (word ∙ none) ∙ bit_zero (8 * (x % 8) + y % 8)) f.2))

-- what the ranking refuses, the check refuses
pub settle_refused :
    (r : Rack) (table s t u v : List ℕ) (f : RankFault) → Room (8 * channel_count r) s u → Answered (FollowedBy r table) (8 * channel_count r) s t u v (Err f) →
    Settled r table s t u v (Err (rank_refusal f))
settle_refused r table s t u v ShortTables room h = ⊎_elim (λ (l : length s < 8 * channel_count r). omega (arith, room.0)) (λ (l : length u < 8 * channel_count r). omega (arith, room.1)) h.0
settle_refused r table s t u v (RingFound n) room h = h.1

-- and so does the bare check
pub bare_refused :
    (r : Rack) (table s t u v : List ℕ) (f : RankFault) → turn_count (channel_count r) ≤ length table → Answered (ChannelFollowedBy r table) (channel_count r) s t u v (Err f) →
    BareChecked r table s t u v (Err (rank_refusal f))
bare_refused r table s t u v ShortTables long h = (λ b. ⊎_elim (λ (l : length s < channel_count r). omega (arith, b.1)) (λ (l : length u < channel_count r). omega (arith, b.2)) h.0, h.1, h.2)
bare_refused r table s t u v (RingFound n) long h = ((long, h.0.0, h.0.1), h.1)
