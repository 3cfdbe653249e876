-- A channel that comes twice comes for ever. Assumes nothing.
use Rattle.std.proofs.Common.{◌≡◌, ℕ, zero, suc, ◌+◌, ◌-◌, ◌<◌, ◌≤◌, true, false, cond, Some, None, Option, sym, refl, ap, ◌∙◌, subst, ⊎_elim, arith}
use Rattle.std.proofs.lemmas.Bool.{both_ways, cases_lt, cases_eq}
use Rattle.std.proofs.lemmas.Option.{none-some, same_Some}
use Rattle.rack.specs.Racks.{channel_count, head, Host, Switch}
use Rattle.rack.proofs.Facts.{one_in, host_no_switch}
use Rattle.routing.specs.Sources.{enters_switch}
use Rattle.routing.specs.Paths.{Routing, Hop, named, behind, hop_at, EndsAtHop, Delivered}
use Rattle.routing.specs.Laws.{NeverEnds, NeverDelivered, DeliveredInTime, NoChannelTwice}
use Rattle.routing.proofs.Hops.{came, gone, hop_below, behind_ends, from_first}
use Rattle.routing.proofs.Repeats.{twice}
use Rattle.routing.proofs.Tests.{enters_no}

-- what is not none is something
pub something : {X : Type 0} (x : Option X) → (x ≡ None → ⊥) → (y : X) × (x ≡ Some y)
something None h = absurd (h refl)
something (Some y) h = (y, refl)

-- the channel of a hop, 0 for none
abbrev channel_of : Option Hop → ℕ
channel_of None = 0
channel_of (Some h) = h.channel

-- a number, and then those of a sequence
abbrev ahead : ℕ → (ℕ → ℕ) → ℕ → ℕ
ahead x f zero = x
ahead x f (suc i) = f i

-- a host's channel enters no switch
pub into_host : (g : Routing) (c v : ℕ) → Host g.rack v → head g.rack c ≡ v → enters_switch g.rack c ≡ false
into_host g c v host e = enters_no g.rack c (λ w s. host_no_switch g.rack v host (subst (Switch g.rack) (sym s.1 ∙ e) s.2))

module _ (g : Routing) (c v s : ℕ) where
  -- a hop before one that is there is there, and enters a switch
  pub before : (i j : ℕ) (k : Hop) → i < j → hop_at g c v s j ≡ Some k → (h : Hop) × (hop_at g c v s i ≡ Some h) × (enters_switch g.rack h.channel ≡ true)
  before i j k l e =
      let some = something (hop_at g c v s (suc i)) (λ none. none-some k (sym (gone g v s c (suc i) j (omega arith) none) ∙ e)) in
      let b = came g v s (hop_at g c v s i) some.0 some.1 in
      (b.0, b.1, b.2)

  -- what comes behind a hop is a matter of its channel
  alike : (h k : Hop) → h.channel ≡ k.channel → behind g v s (Some h) ≡ behind g v s (Some k)
  alike h k e = ap (λ d. cond (enters_switch g.rack d) (named g v s d (g.next d v)) None) e

  later : (n a b : ℕ) → hop_at g c v s a ≡ hop_at g c v s b → hop_at g c v s (a + n) ≡ hop_at g c v s (b + n)
  later zero a b e =
      let p : a + 0 ≡ a = omega arith in
      let q : b + 0 ≡ b = omega arith in
      ap (hop_at g c v s) p ∙ e ∙ sym (ap (hop_at g c v s) q)
  later (suc n) a b e =
      let p : a + suc n ≡ suc (a + n) = omega arith in
      let q : b + suc n ≡ suc (b + n) = omega arith in
      ap (hop_at g c v s) p ∙ ap (behind g v s) (later n a b e) ∙ sym (ap (hop_at g c v s) q)

  module _ (i j : ℕ) (h k : Hop) (l : i < j) (at : hop_at g c v s i ≡ Some h) (again : hop_at g c v s j ≡ Some k) (same : h.channel ≡ k.channel) where
    same_next : hop_at g c v s (suc i) ≡ hop_at g c v s (suc j)
    same_next = ap (behind g v s) at ∙ alike h k same ∙ sym (ap (behind g v s) again)

    going : (fuel n : ℕ) → n < fuel → hop_at g c v s n ≡ None → ⊥
    going zero n f e = omega arith
    going (suc fuel) n f e =
        ⊎_elim
        (λ (low : n < suc j). none-some k (sym (gone g v s c n j (omega arith) e) ∙ again))
        (λ (high : suc j ≤ n).
        let m : suc j + (n - suc j) ≡ n = omega arith in
        let less : suc i + (n - suc j) < fuel = omega arith in
        going fuel (suc i + (n - suc j)) less (later (n - suc j) (suc i) (suc j) same_next ∙ ap (hop_at g c v s) m ∙ e))
        (cases_lt n (suc j))

    -- a path that takes a channel twice has every hop
    pub for_ever : (n : ℕ) → hop_at g c v s n ≡ None → ⊥
    for_ever n e = going (suc n) n (omega arith) e

  -- and each of them enters a switch
  pub all_go_on : ((n : ℕ) → hop_at g c v s n ≡ None → ⊥) → (n : ℕ) → (h : Hop) × (hop_at g c v s n ≡ Some h) × (enters_switch g.rack h.channel ≡ true)
  all_go_on every n = let some = something (hop_at g c v s (suc n)) (every (suc n)) in before n (suc n) some.0 (omega arith) some.1

  module _ (u last : ℕ) (host : Host g.rack u) (out : c < channel_count g.rack) (all : last + 1 ≡ channel_count g.rack) (h : Hop) (here : hop_at g c v s last ≡ Some h) (sw : enters_switch g.rack h.channel ≡ true) where
    -- as many hops as there are channels, each of which enters a switch
    each : (i : ℕ) → i < channel_count g.rack → (k : Hop) × (hop_at g c v s i ≡ Some k) × (enters_switch g.rack k.channel ≡ true)
    each i l =
        ⊎_elim
        (λ (e : i ≡ last). (h, ap (hop_at g c v s) e ∙ here, sw))
        (λ (ne : i ≡ last → ⊥). before i last h (omega arith) here)
        (cases_eq i last)

    abbrev back_in : ℕ
    back_in = (one_in g.rack u host).0

    abbrev chosen : ℕ → ℕ
    chosen = ahead back_in (λ i. channel_of (hop_at g c v s i))

    chosen_below : (i : ℕ) → i < suc (channel_count g.rack) → chosen i < channel_count g.rack
    chosen_below zero l = (one_in g.rack u host).1.0
    chosen_below (suc i) l =
        let k = each i (omega arith) in
        let e : channel_of (hop_at g c v s i) ≡ k.0.channel = ap channel_of k.1 in
        subst (λ x. x < channel_count g.rack) (sym e) (hop_below g v s c out i k.0 k.1)

    -- the channel into u is none of them, so that one of them comes twice
    repeated : (i j : ℕ) → i < j → j < suc (channel_count g.rack) → chosen i ≡ chosen j → (n : ℕ) → hop_at g c v s n ≡ None → ⊥
    repeated i zero l m e = absurd (omega arith)
    repeated zero (suc j) l m e =
        let k = each j (omega arith) in
        let q : k.0.channel ≡ back_in = sym (ap channel_of k.1) ∙ sym e in
        absurd (both_ways _ (into_host g k.0.channel u host (ap (head g.rack) q ∙ (one_in g.rack u host).1.1)) k.2)
    repeated (suc i) (suc j) l m e =
        let a = each i (omega arith) in
        let b = each j (omega arith) in
        for_ever i j a.0 b.0 (omega arith) a.1 b.1 (sym (ap channel_of a.1) ∙ e ∙ ap channel_of b.1)

    pub unending : (n : ℕ) → (k : Hop) × (hop_at g c v s n ≡ Some k) × (enters_switch g.rack k.channel ≡ true)
    unending =
        let t = twice chosen (channel_count g.rack) (suc (channel_count g.rack)) (omega arith) chosen_below in
        all_go_on (repeated t.0 t.1 t.2 t.3 t.4)

pub never_ends : NeverEnds
never_ends g u v s host w i =
    let on = w.2.1 in
    let k = unending g on.0 v s u w.0 host on.1.0 w.1 w.2.0 on.2 w.2.2 i in
    (k.0, (on.0, on.1, k.1), k.2)

pub never_delivered : NeverDelivered
never_delivered g u v s host end w d =
    let n = d.0 in
    let k = never_ends g u v s host w n in
    let first = k.1.0 in
    let same : k.0 ≡ d.1.0 = same_Some _ _ (sym k.1.2 ∙ from_first g u v s first n d.1.0 host k.1.1 d.1.1) in
    both_ways _ (into_host g k.0.channel v end (ap (λ (x : Hop). head g.rack x.channel) same ∙ d.1.3)) k.2

in_time : (g : Routing) (u v s : ℕ) → Host g.rack u → Host g.rack v → Delivered g u v s → (n : ℕ) × (n < channel_count g.rack) × EndsAtHop g u v s n
in_time g u v s host end d =
    ⊎_elim
    (λ (l : d.0 < channel_count g.rack). (d.0, l, d.1))
    (λ (l : channel_count g.rack ≤ d.0).
    let on = d.1.1 in
    let out : on.0 < channel_count g.rack = on.1.0 in
    let last = channel_count g.rack - 1 in
    let all : last + 1 ≡ channel_count g.rack = omega arith in
    let less : last < d.0 = omega arith in
    let b = before g on.0 v s last d.0 d.1.0 less on.2 in
    absurd (never_delivered g u v s host end (last, all, (b.0, (on.0, on.1, b.1), b.2)) d))
    (cases_lt d.0 (channel_count g.rack))

pub delivered_in_time : DeliveredInTime
delivered_in_time g u v s host end = (in_time g u v s host end, λ d. (d.0, d.2))

pub no_channel_twice : NoChannelTwice
no_channel_twice g u v s n host end e i j h k l m a b same =
    let on = e.1 in
    let first = on.0 in
    let at = from_first g u v s first i h host on.1 a in
    let again = from_first g u v s first j k host on.1 b in
    let last : hop_at g first v s (suc n) ≡ None = ap (behind g v s) on.2 ∙ behind_ends g v s e.0 (into_host g e.0.channel v end e.3) in
    for_ever g first v s i j h k l at again same (suc n) last
