-- From the list that a walk gives to the marks of a pair's path. Assumes nothing.
use Rattle.std.proofs.Common.{◌≡◌, ℕ, suc, ◌+◌, ◌-◌, ◌<◌, ◌≤◌, true, false, List, length, get_or, drop, Some, sym, ap, ◌∙◌, subst, inl, inr, ⊎_elim, arith, length-drop}
use Rattle.std.proofs.lemmas.Option.{same_Some}
use Rattle.std.specs.List.{zip}
use Rattle.std.proofs.lemmas.Slice.Zip.{length-zip, get_or-zip}
use Rattle.std.proofs.lemmas.List.{get_or_read}
use Rattle.std.proofs.lemmas.Grind.{get_or_after_one}
use Rattle.std.proofs.lemmas.Bool.{cases_eq, cases_lt}
use Rattle.rack.specs.declared.rack.Rack.{Rack}
use Rattle.rack.specs.Racks.{Leaving}
use Rattle.rack.proofs.Facts.{host_no_switch}
use Rattle.routing.specs.declared.pair.Pair.{Pair}
use Rattle.routing.specs.declared.walk.Step.{Step}
use Rattle.routing.specs.Sources.{enters_switch}
use Rattle.routing.specs.Turns.{turns}
use Rattle.routing.specs.Paths.{Routing, Hop, hop_at, OnPath}
use Rattle.routing.specs.Walks.{hop_of, Walked}
use Rattle.routing.proofs.Tests.{enters_no}
use Rattle.routing.proofs.Hops.{came, hop_last, from_first}
use Rattle.checking.specs.Plans.{On, level_at, FinePair}
use Rattle.checking.specs.Marks.{Adds, Says, ListSays, PairSays}
use Rattle.checking.proofs.Adding.{adds_both, adds_none}

-- one hop more of the list
pub list_more :
    (r : Rack) (path : List Step) (n : ℕ) (a b : Step) (s t u : List ℕ) → n + 1 < length path → a ≡ get_or path n a → b ≡ get_or path (n + 1) b →
    Adds (ListSays r path n) s t → Adds (Says r (hop_of a) (hop_of b)) t u → Adds (ListSays r path (n + 1)) s u
list_more r path n a b s t u l ea eb one two =
    adds_both (ListSays r path n) (Says r (hop_of a) (hop_of b)) (ListSays r path (n + 1)) s t u
    (λ k j h.
    ⊎_elim
    (λ (e : h.0 ≡ n).
    let at = subst (λ i. Says r (hop_of (get_or path i a)) (hop_of (get_or path (i + 1) a)) k j) e (h.2 a) in
    inr (subst (λ (x : Step). Says r (hop_of a) (hop_of x) k j) (sym (get_or_read path (n + 1) b l eb a)) (subst (λ (x : Step). Says r (hop_of x) (hop_of (get_or path (n + 1) a)) k j) (sym ea) at)))
    (λ (ne : h.0 ≡ n → ⊥). inl (h.0, omega (arith, h.1), h.2))
    (cases_eq h.0 n))
    (λ k j h. (h.0, omega (arith, h.1), h.2))
    (λ k j h. (n, omega arith, λ d. subst (λ (x : Step). Says r (hop_of x) (hop_of (get_or path (n + 1) d)) k j) (get_or_read path n a (omega arith) ea d) (subst (λ (x : Step). Says r (hop_of a) (hop_of x) k j) (get_or_read path (n + 1) b l eb d) h)))
    one two

-- the pairs of a step and the next
abbrev pub pairs : List Step → List (Step × Step)
pairs path = zip path (drop 1 path)

pub length-pairs : (path : List Step) → length (pairs path) ≡ length path - 1
length-pairs path = omega (arith, length-zip path (drop 1 path), length-drop 1 path)

-- the pair at place n
pub pair_at :
    (path : List Step) (n : ℕ) (p : Step × Step) → n < length (pairs path) → p ≡ get_or (pairs path) n p →
    (n + 1 < length path) × (p.0 ≡ get_or path n p.0) × (p.1 ≡ get_or path (n + 1) p.1)
pair_at path n p low is =
    let within : n + 1 < length path = omega (arith, length-pairs path) in
    let both = is ∙ get_or-zip path (drop 1 path) n p (omega arith) (omega (arith, length-drop 1 path)) in
    let e : 1 + n ≡ n + 1 = omega arith in
    (within, ap (λ (x : Step × Step). x.0) both, ap (λ (x : Step × Step). x.1) both ∙ get_or_after_one path n p.1 ∙ ap (λ k. get_or path k p.1) e)

-- a step to stand where a list ends
blank : Step
blank = record { channel = record { 0 = 0 }; lane = record { number = 0; within = omega arith } }

module _ (g : Routing) (levels : List ℕ) (lanes : ℕ) (p : Pair) (s : ℕ) (path : List Step) (w : Walked g lanes p s path) where
  abbrev u : ℕ
  u = p.sender.0

  abbrev v : ℕ
  v = p.receiver.0

  -- the channel on which the path begins
  abbrev first : ℕ
  first = w.ends.1.0

  leaving : Leaving g.rack u first
  leaving = w.ends.1.1

  at_hop : (i : ℕ) (h : Hop) → OnPath g u v s i h → hop_at g first v s i ≡ Some h
  at_hop i h on = from_first g u v s first i h w.pair.0 leaving on

  listed : (i : ℕ) (h : Hop) (d : Step) → i < length path → OnPath g u v s i h → h ≡ hop_of (get_or path i d)
  listed i h d l on = same_Some _ _ (sym (at_hop i h on) ∙ at_hop i _ (w.lists i d l))

  -- the last hop enters the receiver, and so no switch
  last_ends : enters_switch g.rack w.ends.0.channel ≡ false
  last_ends = enters_no g.rack w.ends.0.channel (λ x e. host_no_switch g.rack v w.pair.1 (subst (λ n. get_or g.rack.nodes.items n 0 ≡ 2) (sym e.1 ∙ w.ends.3) e.2))

  within : (i : ℕ) (h : Hop) → OnPath g u v s i h → i < length path
  within i h on =
      ⊎_elim
      (λ (l : i < length path). l)
      (λ (l : length path ≤ i). absurd (hop_last g v s first (length path - 1) i w.ends.0 h (at_hop (length path - 1) w.ends.0 w.ends.1) last_ends (let z = w.some in omega arith) (at_hop i h on)))
      (cases_lt i (length path))

  pub list_turns : (i : ℕ) (d : Step) → i + 1 < length path → turns g.rack (get_or path i d).channel.0 (get_or path (i + 1) d).channel.0 ≡ true
  list_turns i d l =
      let n : i + 1 ≡ suc i = omega arith in
      let here = at_hop i (hop_of (get_or path i d)) (w.lists i d (omega arith)) in
      let next = subst (λ m. hop_at g first v s m ≡ Some (hop_of (get_or path (i + 1) d))) n (at_hop (i + 1) (hop_of (get_or path (i + 1) d)) (w.lists (i + 1) d l)) in
      let b = came g v s (hop_at g first v s i) (hop_of (get_or path (i + 1) d)) next in
      let same : b.0 ≡ hop_of (get_or path i d) = same_Some _ _ (sym b.1 ∙ here) in
      let t = b.3 in
      subst (λ m. turns g.rack (get_or path i d).channel.0 m ≡ true) (sym (ap (λ (x : Hop). x.channel) t.3)) (subst (λ (x : Hop). turns g.rack x.channel t.0 ≡ true) same t.2)

  module _ (is : s ≡ level_at g.rack levels u v) where
    on_to : (i : ℕ) (h : Hop) → OnPath g u v s i h → On g levels u v i h
    on_to i h on = subst (λ l. OnPath g u v l i h) is on

    on_from : (i : ℕ) (h : Hop) → On g levels u v i h → OnPath g u v s i h
    on_from i h on = subst (λ l. OnPath g u v l i h) (sym is) on

    list_to_pair : (k b : ℕ) → ListSays g.rack path (length path - 1) k b → PairSays g levels u v k b
    list_to_pair k b h =
        let i = h.0 in
        let n : i + 1 ≡ suc i = omega arith in
        (i, hop_of (get_or path i blank), hop_of (get_or path (i + 1) blank), on_to i _ (w.lists i blank (omega (arith, h.1))), subst (λ m. On g levels u v m (hop_of (get_or path (i + 1) blank))) n (on_to (i + 1) _ (w.lists (i + 1) blank (omega (arith, h.1)))), h.2 blank)

    pair_to_list : (k b : ℕ) → PairSays g levels u v k b → ListSays g.rack path (length path - 1) k b
    pair_to_list k b h =
        let i = h.0 in
        let n : suc i ≡ i + 1 = omega arith in
        let l = within (suc i) h.2 (on_from (suc i) h.2 h.4) in (
          i,
          omega arith,
          λ d.
              subst (λ (x : Hop). Says g.rack x (hop_of (get_or path (i + 1) d)) k b) (listed i h.1 d (omega arith) (on_from i h.1 h.3))
              (subst (λ (x : Hop). Says g.rack h.1 x k b) (listed (i + 1) h.2 d (omega arith) (subst (λ m. OnPath g u v s m h.2) n (on_from (suc i) h.2 h.4))) h.5),
        )

    pub pair_adds : (before after : List ℕ) → Adds (ListSays g.rack path (length path - 1)) before after → Adds (PairSays g levels u v) before after
    pair_adds before after adds =
        adds_both (ListSays g.rack path (length path - 1)) (λ _ _. ⊥) (PairSays g levels u v) before after after
        (λ k b h. inl (pair_to_list k b h)) list_to_pair (λ k b h. absurd h) adds (adds_none (λ _ _. ⊥) after (λ k b h. h))

    pub pair_fine : 1 ≤ lanes → s ≤ 15 → FinePair g levels lanes u v
    pair_fine some low =
        record {
          level = omega arith;
          arrives = (length path - 1, (w.ends.0, on_to (length path - 1) w.ends.0 w.ends.1, w.ends.2, w.ends.3));
          low = λ i h on.
              ⊎_elim
              (λ (e : i ≡ 0).
              let start = at_hop 0 h (subst (λ m. OnPath g u v s m h) e (on_from i h on)) in
              let lane : 0 ≡ h.lane = ap (λ (x : Hop). x.lane) (same_Some _ _ start) in
              omega arith)
              (λ (ne : i ≡ 0 → ⊥). w.low i h (omega arith) (on_from i h on))
              (cases_eq i 0);
        }
