-- What a walk keeps true from hop to hop. Assumes nothing.
use Rattle.std.proofs.Common.{◌≡◌, ℕ, ◌+◌, ◌-◌, ◌<◌, ◌≤◌, true, false, List, [], ◌∷◌, ◌++◌, length, Some, Ok, Err, Result, sym, refl, ap, ◌∙◌, subst, ⊎_elim, arith, MatchResult}
use Rattle.std.proofs.lemmas.List.{get_or_push, get_or_append_left, length_push}
use Rattle.std.proofs.lemmas.Bool.{cases_lt, cases_eq}
use Rattle.std.proofs.lemmas.Option.{same_Some}
use Rattle.rack.specs.Racks.{channel_count, head, Leaving}
use Rattle.routing.specs.declared.pair.Pair.{Pair}
use Rattle.routing.specs.declared.fault.WalkFault.{WalkFault}
use Rattle.routing.specs.declared.fault.WalkFault.TheVariants.{NoPair, Endless, NoChannel, Elsewhere, Lane, OtherHost, Memory}
use Rattle.routing.specs.declared.walk.Step.{Step}
use Rattle.routing.specs.Sources.{enters_switch}
use Rattle.routing.specs.Turns.{turns}
use Rattle.routing.specs.Paths.{Routing, Hop, hop, PairOf, hop_at, OnPath}
use Rattle.routing.specs.Walks.{hop_of, Advances, Reaches, ListsPath, Walked, Stops, WalkStops}
use Rattle.routing.proofs.Hops.{hop_more, hop_last, hop_below, from_first}

-- the first i + 1 hops of the pair's path stand in the list, the last of them is `at`, and their lanes, but for the first, are below the lane count
pub record Walking (g : Routing) (lanes : ℕ) (p : Pair) (s first i : ℕ) (at : Step) (path : List Step) : Type 0 where
  pub pair : PairOf g.rack p.sender.0 p.receiver.0
  pub leaving : Leaving g.rack p.sender.0 first
  pub here : hop_at g first p.receiver.0 s i ≡ Some (hop_of at)
  pub low : (j : ℕ) (k : Hop) → 0 < j → j ≤ i → OnPath g p.sender.0 p.receiver.0 s j k → k.lane < lanes
  pub long : length path ≡ i + 1
  pub lists : ListsPath g p.sender.0 p.receiver.0 s path

module _ (g : Routing) (lanes : ℕ) (p : Pair) (s : ℕ) where
  -- the list with one hop more
  pub lists_more : (path : List Step) (at : Step) (i : ℕ) → length path ≡ i → OnPath g p.sender.0 p.receiver.0 s i (hop_of at) → ListsPath g p.sender.0 p.receiver.0 s path → ListsPath g p.sender.0 p.receiver.0 s (path ++ at ∷ [])
  lists_more path at i long on lists k d l =
      ⊎_elim
      (λ (low : k < length path). subst (λ (x : Step). OnPath g p.sender.0 p.receiver.0 s k (hop_of x)) (sym (get_or_append_left path (at ∷ []) d k low)) (lists k d low))
      (λ (high : length path ≤ k).
      let n = length_push path at in
      let last : length path ≡ k = omega arith in
      let same : i ≡ k = omega arith in
      subst (λ (x : Step). OnPath g p.sender.0 p.receiver.0 s k (hop_of x)) (sym (get_or_push path at d k last)) (subst (λ n. OnPath g p.sender.0 p.receiver.0 s n (hop_of at)) same on))
      (cases_lt k (length path))

  pub walking_start : (at : Step) (path : List Step) → path ≡ at ∷ [] → PairOf g.rack p.sender.0 p.receiver.0 → Leaving g.rack p.sender.0 at.channel.0 → at.lane.number ≡ 0 → Walking g lanes p s at.channel.0 0 at path
  walking_start at path is pair leaving lane =
      rw is
      (let first : hop_at g at.channel.0 p.receiver.0 s 0 ≡ Some (hop_of at) = ap (λ q. Some (hop at.channel.0 q)) (sym lane) in
      record {
        pair = pair;
        leaving = leaving;
        here = first;
        low = λ j k a b. absurd (omega arith);
        long = refl;
        lists = lists_more [] at 0 refl (at.channel.0, leaving, first) (λ k d l. absurd (omega arith));
      })

  module _ (first i : ℕ) (at : Step) (path : List Step) (w : Walking g lanes p s first i at path) where
    pub reaches : Reaches g lanes p.sender.0 p.receiver.0 s i (hop_of at)
    reaches = ((first, w.leaving, w.here), w.low)

    pub at_below : at.channel.0 < channel_count g.rack
    at_below = hop_below g p.receiver.0 s first w.leaving.0 i (hop_of at) w.here

    pub walking_more :
        (next : Step) (j : ℕ) (more : List Step) → more ≡ path ++ next ∷ [] → j ≡ i + 1 → enters_switch g.rack at.channel.0 ≡ true → g.next at.channel.0 p.receiver.0 ≡ Some next.channel.0 →
        turns g.rack at.channel.0 next.channel.0 ≡ true → next.lane.number ≡ g.lane at.channel.0 next.channel.0 s → next.lane.number < lanes →
        Walking g lanes p s first j next more
    walking_more next j more is n sw nx tn lane below =
        rw is
        (let here : hop_at g first p.receiver.0 s j ≡ Some (hop_of next) =
        hop_more g p.receiver.0 s first i j (hop_of at) next.channel.0 n w.here sw nx tn ∙ ap (λ q. Some (hop next.channel.0 q)) (sym lane) in
        record {
          pair = w.pair;
          leaving = w.leaving;
          here = here;
          low = λ k h a b on.
              ⊎_elim
              (λ (e : k ≡ j).
              let same : hop_of next ≡ h = same_Some _ _ (sym here ∙ from_first g p.sender.0 p.receiver.0 s first j h w.pair.0 w.leaving (subst (λ m. OnPath g p.sender.0 p.receiver.0 s m h) e on)) in
              subst (λ (x : Hop). x.lane < lanes) same below)
              (λ (ne : k ≡ j → ⊥). w.low k h a (omega arith) on)
              (cases_eq k j);
          long = length_push path next ∙ omega (arith, w.long);
          lists = lists_more path next j (w.long ∙ sym n) (first, w.leaving, here) w.lists;
        })

    pub walked : enters_switch g.rack at.channel.0 ≡ false → head g.rack at.channel.0 ≡ p.receiver.0 → i < channel_count g.rack → Walked g lanes p s path
    walked sw e few =
        record {
          pair = w.pair;
          some = omega (arith, w.long);
          short = omega (arith, w.long);
          lists = w.lists;
          ends = (hop_of at, (first, w.leaving, (let n : i ≡ length path - 1 = omega (arith, w.long) in subst (λ k. hop_at g first p.receiver.0 s k ≡ Some (hop_of at)) n w.here)), at_below, e);
          low = λ j h a on.
              ⊎_elim
              (λ (l : j < i + 1). w.low j h a (omega arith) on)
              (λ (l : i + 1 ≤ j). absurd (hop_last g p.receiver.0 s first i j (hop_of at) h w.here sw (omega arith) (from_first g p.sender.0 p.receiver.0 s first j h w.pair.0 w.leaving on)))
              (cases_lt j (i + 1));
        }

    pub stops : (k : ℕ) → k ≡ i + 1 → enters_switch g.rack at.channel.0 ≡ true → Stops g lanes p p s k (hop_of at)
    stops k n sw =
        let m : i ≡ k - 1 = omega arith in
        record {
          told = refl;
          pair = w.pair;
          later = omega arith;
          before = subst (λ j. Reaches g lanes p.sender.0 p.receiver.0 s j (hop_of at)) m reaches;
          switch = sw;
        }

    at_fault : (q : Pair) (j k : ℕ) → k ≡ i + 1 → enters_switch g.rack at.channel.0 ≡ true → q ≡ p → j ≡ k → Stops g lanes p q s j (hop_of at)
    at_fault q j k n sw same e =
        let st = stops j (e ∙ n) sw in
        record { told = same; pair = st.pair; later = st.later; before = st.before; switch = st.switch }

    -- the path ends at the receiver, or elsewhere
    pub arrived :
        (room k : ℕ) (r : Result (Unit {0}) WalkFault) → k ≡ i → i < channel_count g.rack → enters_switch g.rack at.channel.0 ≡ false →
        MatchResult r (λ _. head g.rack at.channel.0 ≡ p.receiver.0) (λ f. (f ≡ OtherHost p k) × (head g.rack at.channel.0 ≡ p.receiver.0 → ⊥)) →
        MatchResult r (λ _. Walked g lanes p s path) (WalkStops g lanes p s room)
    arrived room k (Ok x) n few sw e = walked sw e few
    arrived room k (Err f) n few sw e =
        subst (WalkStops g lanes p s room) (sym e.0) (refl, w.pair, omega arith, (hop_of at, subst (λ j. Reaches g lanes p.sender.0 p.receiver.0 s j (hop_of at)) (sym n) reaches, sw, e.1))

    -- no hop comes behind
    pub stopped : (room k : ℕ) (f : WalkFault) → k ≡ i + 1 → k < channel_count g.rack → enters_switch g.rack at.channel.0 ≡ true → Advances g lanes p s at.channel.0 k (Err f) → WalkStops g lanes p s room f
    stopped room k (NoPair q) n few sw e = absurd e
    stopped room k (Endless q j) n few sw e = absurd e
    stopped room k (NoChannel q j) n few sw e = ((hop_of at, at_fault q j k n sw e.0 e.1, e.2), omega (arith, e.1))
    stopped room k (Elsewhere q j) n few sw e = ((hop_of at, at_fault q j k n sw e.0 e.1, e.2), omega (arith, e.1))
    stopped room k (Lane q j) n few sw e =
        let d = e.2.0 in
        let m : j ≡ i + 1 = e.1 ∙ n in (
          (hop_of at, at_fault q j k n sw e.0 e.1),
          (hop d (g.lane at.channel.0 d s), (first, w.leaving, hop_more g p.receiver.0 s first i j (hop_of at) d m w.here sw e.2.1 e.2.2), e.2.3),
          omega (arith, e.1),
        )
    stopped room k (OtherHost q j) n few sw e = absurd e
    stopped room k Memory n few sw e = absurd e

    -- as many channels as there are were walked
    pub endless : (room k : ℕ) → k ≡ i + 1 → k ≡ channel_count g.rack → enters_switch g.rack at.channel.0 ≡ true → WalkStops g lanes p s room (Endless p k)
    endless room k n all sw = ((hop_of at, stops k n sw), all)
