-- The list of a pair's path holds its hops. Assumes nothing.
use Rattle.std.proofs.Common.{◌≡◌, ℕ, ◌+◌, ◌<◌, eqb, length, get_or, Some, sym, ap, ◌∙◌, subst, arith, eq-eqb, ne_eqb}
use Rattle.rack.specs.declared.rack.Rack.{Rack}
use Rattle.rack.specs.Racks.{channel_count, tail, Host, Leaving}
use Rattle.rack.proofs.Facts.{one_out}
use Rattle.routing.specs.declared.pair.Pair.{Pair}
use Rattle.routing.specs.Paths.{Routing, Hop, hop_at}
use Rattle.routing.proofs.Sourced.{least_some}
use Rattle.routing.proofs.Hops.{only_out, from_first}
use Rattle.checking.specs.Plans.{virtual, On}
use Rattle.fabric.specs.Calls.{Setup, level_for, PairHere}
use Rattle.fabric.specs.Courses.{hops_on, channel_out, path_from, path}
use Rattle.fabric.specs.Laws.{HopListed}
use Rattle.fabric.proofs.Hops.{at_place, of_place}

-- a host has one channel out
pub out_is : (r : Rack) (u c : ℕ) → Host r u → Leaving r u c → channel_out r u ≡ Some c
out_is r u c host leaving =
    least_some (λ d. eqb (tail r d) u) 0 (channel_count r) c (omega arith) (omega (arith, leaving.0)) (eq-eqb (tail r c) u leaving.1)
    (λ i l m. ne_eqb (tail r i) u (λ e. let same : i ≡ c = only_out r u i c host (omega (arith, leaving.0), e) leaving in omega arith))

module _ (s : Setup) (p : Pair) (pair : PairHere s p) where
  abbrev g : Routing
  g = s.routes

  abbrev r : Rack
  r = s.routes.rack

  abbrev v : ℕ
  v = p.receiver.0

  abbrev level : ℕ
  level = level_for s p

  abbrev out : ℕ
  out = (one_out r p.sender.0 pair.0).0

  leaves : Leaving r p.sender.0 out
  leaves = (one_out r p.sender.0 pair.0).1

  -- the list begins on the channel out of the sender
  pub list_is : path s p ≡ hops_on g out v level 0 (channel_count r)
  list_is = ap (path_from s p) (out_is r p.sender.0 out pair.0 leaves)

  pub listed_on : (i x : ℕ) → HopListed s p i x → (h : Hop) × On g s.levels p.sender.0 v i h × (virtual h ≡ x)
  listed_on i x l =
      let b = of_place g out v level 0 (channel_count r) i (subst (λ xs. i < length xs) list_is l.0) in
      let zero_i : 0 + i ≡ i = omega arith in
      (b.0, (out, leaves, ap (hop_at g out v level) (sym zero_i) ∙ b.1), sym b.2 ∙ ap (λ xs. get_or xs i 0) (sym list_is) ∙ l.1)

  pub on_listed : (i x : ℕ) → i < channel_count r → (h : Hop) × On g s.levels p.sender.0 v i h × (virtual h ≡ x) → HopListed s p i x
  on_listed i x low o =
      let zero_i : 0 + i ≡ i = omega arith in
      let here : hop_at g out v level i ≡ Some o.0 = from_first g p.sender.0 v level out i o.0 pair.0 leaves o.1 in
      let b = at_place g out v level 0 (channel_count r) i o.0 (ap (hop_at g out v level) zero_i ∙ here) low in
      (subst (λ xs. i < length xs) (sym list_is) b.0, ap (λ xs. get_or xs i 0) list_is ∙ b.1 ∙ o.2)
