-- Paths over tables that are written out, so that they compute. Assumes nothing.
use Rattle.std.proofs.Common.{◌≡◌, ℕ, zero, suc, ◌+◌, ◌*◌, Bool, true, false, ◌&&◌, cond, List, length, Some, None, Option, sym, refl, ap, ◌∙◌, ⊎_elim, slice_index}
use Rattle.std.specs.Prelude.{nat_lt, ◌==◌}
use Rattle.std.proofs.lemmas.Bool.{cases_Bool, cond-true, cond-false}
use Rattle.rack.specs.declared.cable.Cable.{Cable}
use Rattle.rack.specs.declared.rack.Rack.{Rack}
use Rattle.rack.specs.Network.{channels, tail_end, head_end}
use Rattle.rack.specs.Racks.{nodes_of, cables_of}
use Rattle.routing.specs.Sources.{enters_switch, entry_of, stored_route}
use Rattle.routing.specs.Turns.{turns, two_hop}
use Rattle.routing.specs.Paths.{Routing, Hop, hop, named, behind, hop_at}

-- what decides a path at one level, each as a function of numbers
pub record Net : Type 0 where
  pub enters : ℕ → Bool
  pub turning : ℕ → ℕ → Bool
  pub next : ℕ → ℕ → Option ℕ
  pub lane : ℕ → ℕ → ℕ

-- the routing is that of the net, at level s
pub record IsNet (g : Routing) (s : ℕ) (m : Net) : Type 0 where
  pub enters : (c : ℕ) → enters_switch g.rack c ≡ m.enters c
  pub turning : (c d : ℕ) → turns g.rack c d ≡ m.turning c d
  pub next : (c v : ℕ) → g.next c v ≡ m.next c v
  pub lane : (c d : ℕ) → m.turning c d ≡ true → g.lane c d s ≡ m.lane c d

abbrev pub named_in : Net → ℕ → Option ℕ → Option Hop
named_in m c None = None
named_in m c (Some d) = cond (m.turning c d) (Some (hop d (m.lane c d))) None

abbrev pub behind_in : Net → ℕ → Option Hop → Option Hop
behind_in m v None = None
behind_in m v (Some h) = cond (m.enters h.channel) (named_in m h.channel (m.next h.channel v)) None

-- the hop i places behind another
abbrev pub ahead : Net → ℕ → ℕ → Option Hop → Option Hop
ahead m v zero x = x
ahead m v (suc i) x = behind_in m v (ahead m v i x)

module _ (g : Routing) (s : ℕ) (m : Net) (is : IsNet g s m) where
  named_same : (v c : ℕ) (x : Option ℕ) → named g v s c x ≡ named_in m c x
  named_same v c None = refl
  named_same v c (Some d) =
      ⊎_elim
      (λ (t : m.turning c d ≡ true). cond-true _ _ _ (is.turning c d ∙ t) ∙ ap (λ q. Some (hop d q)) (is.lane c d t) ∙ sym (cond-true _ _ _ t))
      (λ (t : m.turning c d ≡ false). cond-false _ _ _ (is.turning c d ∙ t) ∙ sym (cond-false _ _ _ t))
      (cases_Bool (m.turning c d))

  behind_same : (v : ℕ) (x : Option Hop) → behind g v s x ≡ behind_in m v x
  behind_same v None = refl
  behind_same v (Some h) =
      (λ i. cond (is.enters h.channel i) (named g v s h.channel (is.next h.channel v i)) None)
      ∙ ap (λ y. cond (m.enters h.channel) y None) (named_same v h.channel (m.next h.channel v))

  pub hop_same : (c v i : ℕ) → hop_at g c v s i ≡ ahead m v i (Some (hop c 0))
  hop_same c v zero = refl
  hop_same c v (suc i) = behind_same v (hop_at g c v s i) ∙ ap (behind_in m v) (hop_same c v i)

-- tables that are written out
abbrev pub enters_at : List ℕ → List Cable → ℕ → Bool
enters_at ns cs c = nat_lt c (channels cs) && slice_index ns (head_end cs c).node.0 == 2

abbrev pub turns_at : List ℕ → List Cable → ℕ → ℕ → Bool
turns_at ns cs c d = enters_at ns cs c && (nat_lt d (channels cs) && (tail_end cs d).node.0 == (head_end cs c).node.0)

abbrev pub route_at : List ℕ → List Cable → List ℕ → ℕ → ℕ → Option ℕ
route_at ns cs table c v =
    cond (enters_at ns cs c && slice_index ns v == 1) (entry_of (slice_index table (length ns * (head_end cs c).node.0 + v))) None

abbrev pub two_hop_at : List ℕ → List Cable → ℕ → ℕ → ℕ
two_hop_at ns cs c d = cond (turns_at ns cs c d && slice_index ns (tail_end cs c).node.0 == 2) 1 0

module _ (r : Rack) (ns : List ℕ) (cs : List Cable) (hn : nodes_of r ≡ ns) (hc : cables_of r ≡ cs) where
  pub enters_same : (c : ℕ) → enters_switch r c ≡ enters_at ns cs c
  enters_same c = λ i. enters_at (hn i) (hc i) c

  pub turns_same : (c d : ℕ) → turns r c d ≡ turns_at ns cs c d
  turns_same c d = λ i. turns_at (hn i) (hc i) c d

  pub route_same : (table : List ℕ) (c v : ℕ) → stored_route r table c v ≡ route_at ns cs table c v
  route_same table c v = λ i. route_at (hn i) (hc i) table c v

  pub two_hop_same : (c d s : ℕ) → two_hop r c d s ≡ two_hop_at ns cs c d
  two_hop_same c d s = λ i. two_hop_at (hn i) (hc i) c d
