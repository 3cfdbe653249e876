-- Where lanes rise from switch to switch, there is no ring. Assumes nothing.
use Rattle.std.proofs.Common.{◌≡◌, ℕ, ◌+◌, ◌/◌, ◌%◌, ◌<◌, ◌≤◌, cond, List, sym, ◌∙◌, subst, ⊎_elim, arith}
use Rattle.std.proofs.lemmas.Bool.{cond-true, cond-false}
use Rattle.rack.specs.declared.rack.Rack.{Rack}
use Rattle.rack.specs.Racks.{head, tail, Host, Switch}
use Rattle.rack.proofs.Facts.{host_or_switch, host_no_switch, tail_below, head_below}
use Rattle.ranking.specs.Graphs.{NoRing}
use Rattle.ranking.proofs.Chains.{no_ring_from_rise}
use Rattle.routing.specs.Sources.{is_end}
use Rattle.routing.specs.Paths.{Routing, Hop}
use Rattle.routing.proofs.Tests.{end_yes, end_no, entered, turns_enters}
use Rattle.checking.specs.Plans.{IsFollowedBy, AllFine, Rises}
use Rattle.checking.proofs.Exactness.{Turned, turned}

-- channels out of hosts come first, those into hosts last, and those between switches by their lanes
abbrev order : Rack → ℕ → ℕ → ℕ
order r c q = cond (is_end r (tail r c)) 0 (cond (is_end r (head r c)) 9 (1 + q))

module _ (r : Rack) (c q : ℕ) where
  out : Host r (tail r c) → order r c q ≡ 0
  out h = cond-true _ 0 _ (end_yes r (tail r c) h)

  into : (Host r (tail r c) → ⊥) → Host r (head r c) → order r c q ≡ 9
  into n h = cond-false _ 0 _ (end_no r (tail r c) n) ∙ cond-true _ 9 _ (end_yes r (head r c) h)

  between : (Host r (tail r c) → ⊥) → (Host r (head r c) → ⊥) → order r c q ≡ 1 + q
  between n m = cond-false _ 0 _ (end_no r (tail r c) n) ∙ cond-false _ 9 _ (end_no r (head r c) m)

module _ (g : Routing) (levels : List ℕ) (lanes : ℕ) (few : lanes ≤ 8) (fine : AllFine g levels lanes) (rises : Rises g levels) where
  abbrev r : Rack
  r = g.rack

  up : (h o : Hop) (t : Turned g levels lanes few fine h o) → (Switch r (tail r h.channel) → Switch r (head r o.channel) → h.lane < o.lane) → order r h.channel h.lane < order r o.channel o.lane
  up h o t rise =
      let sw = (entered r h.channel (turns_enters r h.channel o.channel t.turn)).2 in
      let from_switch : Host r (tail r o.channel) → ⊥ = λ e. host_no_switch r (head r h.channel) (subst (Host r) t.leaves e) sw in
      ⊎_elim
      (λ (a : Host r (tail r h.channel)).
      ⊎_elim
      (λ (b : Host r (head r o.channel)). omega (arith, out r h.channel h.lane a, into r o.channel o.lane from_switch b))
      (λ (b : Switch r (head r o.channel)). omega (arith, out r h.channel h.lane a, between r o.channel o.lane from_switch (λ e. host_no_switch r (head r o.channel) e b)))
      (host_or_switch r (head r o.channel) (head_below r o.channel t.next)))
      (λ (a : Switch r (tail r h.channel)).
      let here = between r h.channel h.lane (λ e. host_no_switch r (tail r h.channel) e a) (λ e. host_no_switch r (head r h.channel) e sw) in
      ⊎_elim
      (λ (b : Host r (head r o.channel)). omega (arith, here, into r o.channel o.lane from_switch b, t.low))
      (λ (b : Switch r (head r o.channel)). omega (arith, here, between r o.channel o.lane from_switch (λ e. host_no_switch r (head r o.channel) e b), rise a b))
      (host_or_switch r (head r o.channel) (head_below r o.channel t.next)))
      (host_or_switch r (tail r h.channel) (tail_below r h.channel t.below))

  pub rising_free : NoRing (IsFollowedBy g levels)
  rising_free =
      no_ring_from_rise (IsFollowedBy g levels) (λ x. order r (x / 8) (x % 8))
      (λ x y f.
      let t = turned g levels lanes few fine f.sender f.receiver f.place f.one f.other f.pair f.uses f.then in
      let sw = (entered r f.one.channel (turns_enters r f.one.channel f.other.channel t.turn)).2 in
      let xc : x / 8 ≡ f.one.channel = omega (arith, f.from, t.low) in
      let xv : x % 8 ≡ f.one.lane = omega (arith, f.from, t.low) in
      let yd : y / 8 ≡ f.other.channel = omega (arith, f.to, t.high) in
      let yq : y % 8 ≡ f.other.lane = omega (arith, f.to, t.high) in
      rw (xc, xv, yd, yq)
      (up f.one f.other t
      (λ a b. rises f.sender f.receiver f.place f.one f.other f.pair f.uses f.then (a, sw) (subst (Switch r) (sym t.leaves) sw, b))))
