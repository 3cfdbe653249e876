-- Looking for the least follower or forerunner, channel by channel. Assumes nothing.
use Rattle.std.proofs.Common.{◌≡◌, ℕ, ◌+◌, ◌*◌, ◌/◌, ◌%◌, ◌<◌, ◌≤◌, ◌↔◌, Bool, true, false, eqb, ltb, not, ◌&&◌, ◌==◌, ◌≢◌, slice_index, Decides, List, length, get_or, Some, None, Option, MatchOption, sym, ap, ◌∙◌, subst, ⊎_elim, arith, eqb-true}
use Rattle.std.proofs.lemmas.Bool.{both_ways, cases_lt, cases_eq, cases_Bool, cond-false}
use Rattle.std.proofs.lemmas.Bool.Decides.{Decides-and, Decides-ltb, Decides-not, Decides-eqb}
use Rattle.std.proofs.lemmas.List.{get_or-take, get_or_default, map-id}
use Rattle.std.proofs.lemmas.Iterator.{YieldsList}
use Rattle.std.proofs.lemmas.Iterator.Consumers.{YieldsList-at, YieldsList-so_far, YieldsList-turn, YieldsList-end}
use Rattle.std.proofs.lemmas.Nat.Bits.{bit_at-zero}
use Rattle.std.specs.Iterator.{Yields}
use Rattle.std.specs.Option.{option_map}
use Rattle.std.specs.List.{All, AllPairs, AllWithin, Contains, HoldsAt}
use Rattle.rack.specs.declared.numbers.Channel.{Channel}
use Rattle.rack.specs.declared.rack.Rack.{Rack}
use Rattle.rack.specs.Index.{Lists}
use Rattle.rack.specs.Racks.{channel_count, head, tail, tail_port, Leaving, Entering, EntersSwitch}
use Rattle.routing.specs.Sources.{enters_switch}
use Rattle.routing.specs.Turns.{turns, turn_place}
use Rattle.routing.proofs.Tests.{both_snd, turns_below, turns_enters, entered}
use Rattle.ranking.specs.Graphs.{Next}
use Rattle.checking.specs.Words.{bit, word_of, FollowedBy, ChannelFollowedBy}
use Rattle.checking.specs.Searches.{GivesAscending, Computes, SetOn, MarkedOf}

-- a list of channels in ascending order
module _ (list : List Channel) (ascending : AllPairs (λ b c. b.0 < c.0) list) (Q : ℕ → Type 0) where
  -- Q holds of none of the list
  pub none_in : AllWithin (λ c. Q c.0 → ⊥) list 0 (length list) → (c : ℕ) → Contains list (record { 0 = c }) → Q c → ⊥
  none_in none c at q = none at.0 (record { 0 = c }) (omega arith) at.1 (subst (λ (x : Channel). Q x.0) (sym at.2) q)

  -- Q holds of none before place k, and so of none below the channel there
  pub least_in : (k : ℕ) (c : Channel) → HoldsAt (λ d. d ≡ c) list k → AllWithin (λ d. Q d.0 → ⊥) list 0 k → (d : ℕ) → d < c.0 → Contains list (record { 0 = d }) → Q d → ⊥
  least_in k c here none d low at q =
      let blank : Channel = record { 0 = d } in
      ⊎_elim
      (λ (before : at.0 < k). none at.0 blank (omega arith) before (subst (λ (x : Channel). Q x.0) (sym at.2) q))
      (λ (after : k ≤ at.0).
      ⊎_elim
      (λ (e : at.0 ≡ k). omega (arith, ap (λ (x : Channel). x.0) (sym at.2 ∙ ap (λ i. get_or list i blank) e ∙ here blank)))
      (λ (other : at.0 ≡ k → ⊥). omega (arith, ascending k at.0 blank (omega arith) at.1, ap (λ (x : Channel). x.0) at.2, ap (λ (x : Channel). x.0) (here blank)))
      (cases_eq at.0 k))
      (cases_lt at.0 k)

-- what a search of the list for the first that is marked, from `from` on, answers
module _ (list : List Channel) (ascending : AllPairs (λ b c. b.0 < c.0) list) (marked : ℕ → Bool) (from : ℕ) where
  -- channel c is marked, from `from` on
  abbrev pub Wanted : ℕ → Type 0
  Wanted c = (from ≤ c) × (marked c ≡ true)

  pub marked_next :
      (o : Option Channel) →
      MatchOption o (AllWithin (λ c. Wanted c.0 → ⊥) list 0 (length list)) (λ c. Wanted c.0 × (k : ℕ) × (k < length list) × HoldsAt (λ d. d ≡ c) list k × AllWithin (λ d. Wanted d.0 → ⊥) list 0 k) →
      Next (MarkedOf list marked) from (option_map (λ c. c.0) o)
  marked_next None none = λ z l s. none_in list ascending Wanted none z s.0 (l, s.1)
  marked_next (Some c) found = (
    found.0.0,
    ((found.1, found.2, found.3 c), found.0.1),
    λ z l u s. least_in list ascending Wanted found.1 c found.3 found.4 z u s.0 (l, s.1),
  )

-- a loop over the channels for the lowest lane whose bit is set
module _ (word : Channel → ℕ → Type 0) (from first step : ℕ) where
  -- no lane of the channel has its virtual channel from `from` on and its bit set
  abbrev pub Clear : Channel → Type 0
  Clear c = (i : ℕ) → i < 8 → from ≤ 8 * c.0 + i → (w : ℕ) × word c w × (bit w (first + step * i) ≡ false)

  -- some lane of channel c has
  abbrev Has : (ℕ → ℕ) → ℕ → Type 0
  Has words c = (i : ℕ) × (i < 8) × (from ≤ 8 * c + i) × (bit (words c) (first + step * i) ≡ true)

  has : (list : List Channel) (words : ℕ → ℕ) (y : ℕ) → from ≤ y → SetOn list words first step y → Has words (y / 8)
  has list words y l on = (y % 8, omega arith, omega arith, on.1)

  -- the channels that came so far, xs, are clear
  module _
      {S : Type 0} (steps : S → Option Channel → S → Type 0) {start s : S} (is : start ≡ s) (xs : List Channel) (t : S) (came : Yields steps start xs t) (clear : All Clear xs)
      (list : List Channel) (words : ℕ → ℕ) (gives : GivesAscending steps s list) (told : Computes word words) where
    road : YieldsList steps (λ c. c) start list
    road = YieldsList-at is (record { runs = gives.0 })

    seen : AllWithin (λ c. Has words c.0 → ⊥) list 0 (length xs)
    seen k d l u h =
        let same : get_or xs k d ≡ get_or list k d = ap (λ ys. get_or ys k d) (sym (map-id xs) ∙ YieldsList-so_far road xs t came) ∙ get_or-take (length xs) list k d u in
        let c = get_or list k d in
        let w = subst Clear same (clear k d u) h.0 h.1 h.2 in
        both_ways (bit (words c.0) (first + step * h.0)) (subst (λ n. bit n (first + step * h.0) ≡ false) (told c w.0 w.1) w.2) h.3

    pub set_end : (r : Option Channel) (u : S) → r ≡ None → steps t r u → Next (SetOn list words first step) from None
    set_end r u none last y l on =
        let whole = subst (AllWithin (λ c. Has words c.0 → ⊥) list 0) (YieldsList-end road xs t came r u none last).1 seen in
        none_in list gives.1 (Has words) whole (y / 8) on.0 (has list words y l on)

    pub set_found :
        (c : Channel) (r : Option Channel) (u : S) → r ≡ Some c → steps t r u → (low : ℕ) → ((i : ℕ) → i < 8 → (low ≤ i ↔ from ≤ 8 * c.0 + i)) → (w : ℕ) → word c w →
        (lane y : ℕ) → (low ≤ lane) × (lane < 8) × (bit w (first + step * lane) ≡ true) × ((i : ℕ) → low ≤ i → i < lane → bit w (first + step * i) ≡ false) → y ≡ 8 * c.0 + lane →
        Next (SetOn list words first step) from (Some y)
    set_found c r u some next low lanes w gave lane y lowest sum =
        let at = YieldsList-turn road xs t came r u c some next in
        let here : HoldsAt (λ d. d ≡ c) list (length xs) = λ d. get_or_default list (length xs) d c at.0 ∙ sym at.1 in
        let yc : c.0 ≡ y / 8 = omega (arith, lowest.1) in
        let yl : lane ≡ y % 8 = omega (arith, lowest.1) in
        let same : w ≡ words (y / 8) = told c w gave ∙ ap words yc in (
          omega (arith, (lanes lane lowest.1).0 lowest.0),
          ((length xs, at.0, here (record { 0 = y / 8 }) ∙ ap (λ n. record { 0 = n }) yc), subst (λ n. bit n (first + step * (y % 8)) ≡ true) same (subst (λ i. bit w (first + step * i) ≡ true) yl lowest.2)),
          λ z l below on.
              ⊎_elim
              (λ (lower : z / 8 < c.0). least_in list gives.1 (Has words) (length xs) c here seen (z / 8) lower on.0 (has list words z l on))
              (λ (other : c.0 ≤ z / 8).
              let zc : z / 8 ≡ c.0 = omega (arith, lowest.1) in
              both_ways (bit (words (z / 8)) (first + step * (z % 8)))
              (subst (λ n. bit n (first + step * (z % 8)) ≡ false) (told c w gave ∙ ap words (sym zc)) (lowest.3 (z % 8) ((lanes (z % 8) (omega arith)).1 (omega (arith, zc))) (omega (arith, zc)))) on.1)
              (cases_lt (z / 8) c.0),
        )

-- the least of what is P is the least of what is Q, where these are the same
pub next_same : (P Q : ℕ → Type 0) → ((y : ℕ) → P y → Q y) → ((y : ℕ) → Q y → P y) → (from : ℕ) (r : Option ℕ) → Next P from r → Next Q from r
next_same P Q to back from None none = λ z l q. none z l (back z q)
next_same P Q to back from (Some y) at = (at.0, to y at.1, λ z l u q. at.2 z l u (back z q))

among : (P : ℕ → Type 0) (list : List Channel) → Lists P list → (c : ℕ) → Contains list (record { 0 = c }) → P c
among P list all c at = subst (λ (x : Channel). P x.0) at.2 (all.each at.0 (record { 0 = c }) at.1)

pub bit_zero : (k : ℕ) → bit 0 k ≡ false
bit_zero k = ap (λ n. eqb n 1) (bit_at-zero k)

module _ (r : Rack) (table : List ℕ) where
  -- what has a word that is not 0 is a turn
  pub word_turns : (c d : ℕ) → (word_of r table c d ≡ 0 → ⊥) → turns r c d ≡ true
  word_turns c d ne = ⊎_elim (λ t. t) (λ (t : turns r c d ≡ false). absurd (ne (cond-false _ _ _ t))) (cases_Bool (turns r c d))

  pub turns_leaving : (c d w : ℕ) → turns r c d ≡ true → EntersSwitch r c w → Leaving r w d
  turns_leaving c d w t h =
      (turns_below r c d t, eqb-true (tail r d) (head r c) (both_snd _ _ (both_snd (enters_switch r c) _ t)) ∙ h.1)

  pub turns_entering : (c d : ℕ) → turns r c d ≡ true → Entering r (tail r d) c
  turns_entering c d t =
      ((entered r c (turns_enters r c d t)).0, sym (eqb-true (tail r d) (head r c) (both_snd _ _ (both_snd (enters_switch r c) _ t))))

  pub followed_turns : (x y : ℕ) → FollowedBy r table x y → turns r (x / 8) (y / 8) ≡ true
  followed_turns x y f =
      word_turns (x / 8) (y / 8) (λ e. both_ways (bit (word_of r table (x / 8) (y / 8)) (8 * (x % 8) + y % 8)) (ap (λ n. bit n (8 * (x % 8) + y % 8)) e ∙ bit_zero (8 * (x % 8) + y % 8)) f.2)

  module _ (list : List Channel) where
    pub follower_to : (x w : ℕ) → x < 8 * channel_count r → Lists (Leaving r w) list → (y : ℕ) → SetOn list (word_of r table (x / 8)) (8 * (x % 8)) 1 y → FollowedBy r table x y
    follower_to x w lx all y s =
        let out = among (Leaving r w) list all (y / 8) s.0 in
        let e : 8 * (x % 8) + 1 * (y % 8) ≡ 8 * (x % 8) + y % 8 = omega arith in
        (lx, omega (arith, out.0), subst (λ k. bit (word_of r table (x / 8) (y / 8)) k ≡ true) e s.1)

    pub follower_from : (x w : ℕ) → EntersSwitch r (x / 8) w → Lists (Leaving r w) list → (y : ℕ) → FollowedBy r table x y → SetOn list (word_of r table (x / 8)) (8 * (x % 8)) 1 y
    follower_from x w h all y f =
        let e : 8 * (x % 8) + y % 8 ≡ 8 * (x % 8) + 1 * (y % 8) = omega arith in
        (all.every (record { 0 = y / 8 }) (turns_leaving (x / 8) (y / 8) w (followed_turns x y f) h), subst (λ k. bit (word_of r table (x / 8) (y / 8)) k ≡ true) e f.2)

    pub forerunner_to : (y w : ℕ) → y < 8 * channel_count r → Lists (Entering r w) list → (x : ℕ) → SetOn list (λ c. word_of r table c (y / 8)) (y % 8) 8 x → FollowedBy r table x y
    forerunner_to y w ly all x s =
        let out = among (Entering r w) list all (x / 8) s.0 in
        let e : y % 8 + 8 * (x % 8) ≡ 8 * (x % 8) + y % 8 = omega arith in
        (omega (arith, out.0), ly, subst (λ k. bit (word_of r table (x / 8) (y / 8)) k ≡ true) e s.1)

    pub forerunner_from : (y w : ℕ) → w ≡ tail r (y / 8) → Lists (Entering r w) list → (x : ℕ) → FollowedBy r table x y → SetOn list (λ c. word_of r table c (y / 8)) (y % 8) 8 x
    forerunner_from y w at all x f =
        let e : 8 * (x % 8) + y % 8 ≡ y % 8 + 8 * (x % 8) = omega arith in
        (all.every (record { 0 = x / 8 }) (subst (λ n. Entering r n (x / 8)) (sym at) (turns_entering (x / 8) (y / 8) (followed_turns x y f))), subst (λ k. bit (word_of r table (x / 8) (y / 8)) k ≡ true) e f.2)

  -- whether channel d is one and has a word that is not 0 behind channel c
  abbrev pub word_there : ℕ → ℕ → Bool
  word_there c d = ltb d (channel_count r) && not (slice_index table (turn_place c (tail_port r d)) == 0)

  pub there : (c d : ℕ) → Decides (word_there c d) ((d < channel_count r) × (slice_index table (turn_place c (tail_port r d)) ≢ 0))
  there c d = Decides-and _ _ (Decides-ltb d (channel_count r)) (Decides-not _ (Decides-eqb (slice_index table (turn_place c (tail_port r d))) 0))

  module _ (list : List Channel) where
    pub channel_to : (c w : ℕ) → c < channel_count r → w ≡ head r c → Lists (Leaving r w) list → (d : ℕ) → MarkedOf list (word_there c) d → ChannelFollowedBy r table c d
    channel_to c w lc at all d s = let out = among (Leaving r w) list all d s.0 in let is = (there c d).0 s.1 in (lc, out.0, out.1 ∙ at, is.1)

    pub channel_from : (c w : ℕ) → w ≡ head r c → Lists (Leaving r w) list → (d : ℕ) → ChannelFollowedBy r table c d → MarkedOf list (word_there c) d
    channel_from c w at all d f = (all.every (record { 0 = d }) (f.1, f.2 ∙ sym at), (there c d).1 (f.1, f.3))

    pub channel_back_to : (d w : ℕ) → d < channel_count r → w ≡ tail r d → Lists (Entering r w) list → (c : ℕ) → MarkedOf list (λ c. word_there c d) c → ChannelFollowedBy r table c d
    channel_back_to d w ld at all c s = let out = among (Entering r w) list all c s.0 in let is = (there c d).0 s.1 in (out.0, ld, sym (out.1 ∙ at), is.1)

    pub channel_back_from : (d w : ℕ) → w ≡ tail r d → Lists (Entering r w) list → (c : ℕ) → ChannelFollowedBy r table c d → MarkedOf list (λ c. word_there c d) c
    channel_back_from d w at all c f = (all.every (record { 0 = c }) (f.0, sym (at ∙ f.2)), (there c d).1 (f.1, f.3))
