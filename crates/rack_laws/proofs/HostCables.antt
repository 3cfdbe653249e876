-- A host has one cable, and its other end is at a switch. Assumes nothing.
use Rattle.std.proofs.Common.{◌≡◌, ℕ, zero, suc, ◌+◌, ◌*◌, ◌/◌, ◌%◌, ◌<◌, ◌≤◌, Bool, true, false, cond, eqb, ◌⊎◌, List, length, get_or, sym, ap, ◌∙◌, subst, inl, inr, ⊎_elim, add-one, arith, below_none, below_more}
use Rattle.std.proofs.lemmas.Bool.{cases_eq}
use Rattle.std.proofs.lemmas.Bool.Decides.{nat_tests}
use Rattle.rack.specs.declared.cable.Cable.{Cable}
use Rattle.rack.specs.declared.cable.End.{End}
use Rattle.rack.specs.Network.{none, port_of, ports, tail_end, HostAt, SwitchAt, Port, JoinsPorts, EndsAt, Leaves}
use Rattle.rack_laws.specs.Files.{OutOf, EndsOn, LeadsToSwitch, OneWayOut, OneCable, OneAtPort}
use Rattle.rack.proofs.Channels.{tail_even, tail_odd, leaves_first, leaves_second}
use Rattle.rack_laws.proofs.OneValue.{leaves_once}

-- no end of the cable is at the node
abbrev Off : Cable → ℕ → Type 0
Off c v = (c.first.node.0 ≡ v → ⊥) × (c.second.node.0 ≡ v → ⊥)

-- a cable has an end at a node or not
on_or_off : (c : Cable) (v : ℕ) → EndsOn c v ⊎ Off c v
on_or_off c v =
    ⊎_elim (λ e. inl (inl e)) (λ (a : c.first.node.0 ≡ v → ⊥). ⊎_elim (λ e. inl (inr e)) (λ (b : c.second.node.0 ≡ v → ⊥). inr (a, b)) (cases_eq c.second.node.0 v)) (cases_eq c.first.node.0 v)

-- a cable with an end at the node, or none among the first n
abbrev Cabled : List Cable → ℕ → ℕ → Type 0
Cabled cables v n = (k : ℕ) × (k < n) × EndsOn (get_or cables k none) v

abbrev UncabledBelow : List Cable → ℕ → ℕ → Type 0
UncabledBelow cables v n = (k : ℕ) → k < n → Off (get_or cables k none) v

cabled_or_not : (cables : List Cable) (v n : ℕ) → Cabled cables v n ⊎ UncabledBelow cables v n
cabled_or_not cables v zero = inr (below_none (λ k. Off (get_or cables k none) v))
cabled_or_not cables v (suc n) =
    ⊎_elim
    (λ (h : Cabled cables v n). inl (h.0, omega (arith, h.1), h.2))
    (λ (bare : UncabledBelow cables v n).
    ⊎_elim
    (λ (on : EndsOn (get_or cables n none) v). inl (n, omega arith, on))
    (λ (off : Off (get_or cables n none) v). inr (subst (UncabledBelow cables v) (add-one n) (below_more (λ k. Off (get_or cables k none) v) n bare off)))
    (on_or_off (get_or cables n none) v))
    (cabled_or_not cables v n)

-- a host's port is its port 1
host_port : (kind p : ℕ) → kind ≡ 1 → (1 ≤ p) × (p ≤ ports kind) → p ≡ 1
host_port kind p is h = grind (arith, nat_tests)

-- what has a port and is no host is a switch
port_switch : (kind p : ℕ) → (1 ≤ p) × (p ≤ ports kind) → (kind ≡ 1 → ⊥) → kind ≡ 2
port_switch kind p h other = grind (arith, nat_tests)

-- the end of a cable at a host, from which its other end is at a switch
module _ (nodes : List ℕ) (v : ℕ) (host : HostAt nodes v) where
  host_end : (e : End) → Port nodes e → e.node.0 ≡ v → e ≡ port_of v 1
  host_end e has at =
      let p = host_port (get_or nodes e.node.0 0) e.port.0 (ap (λ i. get_or nodes i 0) at ∙ host) has in
      λ i. record { node = record { 0 = at i }; port = record { 0 = p i } }

  far_switch : (c : Cable) → JoinsPorts nodes c → (c.first.node.0 ≡ v → SwitchAt nodes c.second.node.0) × (c.second.node.0 ≡ v → SwitchAt nodes c.first.node.0)
  far_switch c joins = (
    λ at. port_switch (get_or nodes c.second.node.0 0) c.second.port.0 joins.1 (λ other. joins.3 (ap (λ i. get_or nodes i 0) at ∙ host) other),
    λ at. port_switch (get_or nodes c.first.node.0 0) c.first.port.0 joins.0 (λ other. joins.3 other (ap (λ i. get_or nodes i 0) at ∙ host)),
  )

  tail_to_switch : (t : Bool) (c : Cable) → JoinsPorts nodes c → (cond t c.first c.second).node.0 ≡ v → SwitchAt nodes (cond t c.second c.first).node.0
  tail_to_switch true c joins at = (far_switch c joins).0 at
  tail_to_switch false c joins at = (far_switch c joins).1 at

  tail_port : (t : Bool) (c : Cable) → JoinsPorts nodes c → Port nodes (cond t c.first c.second)
  tail_port true c joins = joins.0
  tail_port false c joins = joins.1

-- the channel of the cable that leaves the node
out_of : (cables : List Cable) (v k : ℕ) → k < length cables → EndsOn (get_or cables k none) v → (c : ℕ) × OutOf cables v c
out_of cables v k h (inl e) = (2 * k, (omega arith, ap (λ (x : End). x.node.0) (tail_even cables k) ∙ e))
out_of cables v k h (inr e) = (2 * k + 1, (omega arith, ap (λ (x : End). x.node.0) (tail_odd cables k) ∙ e))

pub one_way_out : OneWayOut
one_way_out nodes cables rules v host =
    ⊎_elim
    (λ (h : Cabled cables v (length cables)).
    let out = out_of cables v h.0 h.1 h.2 in
    let c = out.0 in
    let end : (d : ℕ) → OutOf cables v d → tail_end cables d ≡ port_of v 1 = λ d o. host_end nodes v host (tail_end cables d) (tail_port nodes v host (eqb (d % 2) 0) (get_or cables (d / 2) none) (rules.2 (d / 2) (omega (arith, o.0)))) o.1 in (
      c,
      out.1,
      tail_to_switch nodes v host (eqb (c % 2) 0) (get_or cables (c / 2) none) (rules.2 (c / 2) (omega (arith, out.1.0))) out.1.1,
      λ d o. rules.3 d c (o.0, out.1.0, end d o ∙ sym (end c out.1)),
    ))
    (λ (bare : UncabledBelow cables v (length cables)). absurd (rules.4 v (host, bare)))
    (cabled_or_not cables v (length cables))

leads : (t : Bool) (nodes : List ℕ) (c : Cable) (v : ℕ) → (cond t c.first c.second).node.0 ≡ v → SwitchAt nodes (cond t c.second c.first).node.0 → LeadsToSwitch nodes c v
leads true nodes c v at to = inl (at, to)
leads false nodes c v at to = inr (at, to)

pub one_cable : OneCable
one_cable nodes cables rules v host =
    let way = one_way_out nodes cables rules v host in
    let c = way.0 in (
      c / 2,
      omega (arith, way.1.0),
      leads (eqb (c % 2) 0) nodes (get_or cables (c / 2) none) v way.1.1 way.2,
      λ j low on. same c j v on low way.3,
    )
  where
    same : (c j v : ℕ) → EndsOn (get_or cables j none) v → j < length cables → ((d : ℕ) → OutOf cables v d → d ≡ c) → j ≡ c / 2
    same c j v (inl e) low only = omega (arith, only (2 * j) (omega arith, ap (λ (x : End). x.node.0) (tail_even cables j) ∙ e))
    same c j v (inr e) low only = omega (arith, only (2 * j + 1) (omega arith, ap (λ (x : End). x.node.0) (tail_odd cables j) ∙ e))

-- the channel of the cable that leaves by the port
pub by_port : (cables : List Cable) (e : End) (k : ℕ) → k < length cables → EndsAt (get_or cables k none) e → (c : ℕ) × Leaves cables e c × (c / 2 ≡ k)
by_port cables e k h (inl is) = (2 * k, leaves_first cables e k h is, omega arith)
by_port cables e k h (inr is) = (2 * k + 1, leaves_second cables e k h is, omega arith)

pub one_at_port : OneAtPort
one_at_port nodes cables rules e = (
  λ j k h l.
      let c = by_port cables e j h.0 h.1 in
      let d = by_port cables e k l.0 l.1 in
      sym c.2 ∙ ap (λ x. x / 2) (leaves_once cables rules.3 e c.0 d.0 c.1 d.1) ∙ d.2,
  λ c d. leaves_once cables rules.3 e c d,
)
