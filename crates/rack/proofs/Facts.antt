-- What the rules say of the nodes and channels of a rack. Assumes nothing.
use Rattle.std.proofs.Common.{◌≡◌, ℕ, zero, suc, ◌+◌, ◌-◌, ◌*◌, ◌/◌, ◌%◌, ◌<◌, ◌≤◌, ◌⊎◌, List, length, get_or, sym, refl, ap, ◌∙◌, subst, inl, inr, ⊎_elim, arith}
use Rattle.std.proofs.lemmas.List.{get_or_past}
use Rattle.std.proofs.lemmas.Bool.{cases_lt, cases_eq, ne_eqb}
use Rattle.rack.specs.declared.cable.Cable.{Cable}
use Rattle.rack.specs.declared.cable.End.{End}
use Rattle.rack.specs.declared.rack.Rack.{Rack}
use Rattle.rack.specs.Network.{ports, Port, HostAt, SwitchAt, channels, tail_end, head_end, Uncabled, KnownKinds, AllJoin, Apart, KeepsRules}
use Rattle.rack.specs.Racks.{nodes_of, cables_of, node_count, channel_count, tail, tail_port, head, head_port, Host, Switch, Leaving, LeavingBy, Entering, back}
use Rattle.rack.proofs.Channels.{both_ways, half_below, tail_even, tail_odd}

-- what has a port is a node, a switch or a host; a host has port 1 alone
ports_of : (k p : ℕ) → 1 ≤ p → p ≤ ports k → ((k ≡ 2) × (p ≤ 36)) ⊎ ((k ≡ 1) × (p ≡ 1))
ports_of k p one within =
    ⊎_elim
    (λ (e : k ≡ 2). inl (e, rw e at within))
    (λ (n : k ≡ 2 → ⊥).
    ⊎_elim
    (λ (e : k ≡ 1). let w : p ≤ 1 = rw e at within in inr (e, omega arith))
    (λ (m : k ≡ 1 → ⊥). let w : p ≤ 0 = rw (ne_eqb k 2 n, ne_eqb k 1 m) at within in absurd (omega arith))
    (cases_eq k 1))
    (cases_eq k 2)

-- equal ends, by their numbers
pub same_end : (a b : End) → a.node.0 ≡ b.node.0 → a.port.0 ≡ b.port.0 → a ≡ b
same_end a b v p = λ i. record { node = record { 0 = v i }; port = record { 0 = p i } }

-- a node that the table has
pub in_table : (nodes : List ℕ) (v x : ℕ) → get_or nodes v 0 ≡ x → 1 ≤ x → v < length nodes
in_table nodes v x is some = ⊎_elim (λ h. h) (λ (h : length nodes ≤ v). absurd (omega (arith, get_or_past nodes v 0 h))) (cases_lt v (length nodes))

pub port_node : (nodes : List ℕ) (e : End) → Port nodes e → e.node.0 < length nodes
port_node nodes e p =
    ⊎_elim
    (λ (h : (get_or nodes e.node.0 0 ≡ 2) × (e.port.0 ≤ 36)). in_table nodes _ 2 h.0 (omega arith))
    (λ (h : (get_or nodes e.node.0 0 ≡ 1) × (e.port.0 ≡ 1)). in_table nodes _ 1 h.0 (omega arith))
    (ports_of _ _ p.0 p.1)

pub port_within : (nodes : List ℕ) (e : End) → Port nodes e → (1 ≤ e.port.0) × (e.port.0 ≤ 36)
port_within nodes e p =
    (p.0, ⊎_elim (λ (h : (get_or nodes e.node.0 0 ≡ 2) × (e.port.0 ≤ 36)). h.1) (λ (h : (get_or nodes e.node.0 0 ≡ 1) × (e.port.0 ≡ 1)). omega (arith, h.1)) (ports_of _ _ p.0 p.1))

pub host_port : (nodes : List ℕ) (e : End) → Port nodes e → HostAt nodes e.node.0 → e.port.0 ≡ 1
host_port nodes e p host =
    ⊎_elim (λ (h : (get_or nodes e.node.0 0 ≡ 2) × (e.port.0 ≤ 36)). absurd (omega (arith, h.0, host))) (λ (h : (get_or nodes e.node.0 0 ≡ 1) × (e.port.0 ≡ 1)). h.1) (ports_of _ _ p.0 p.1)

-- the tail and the head of a channel are ports of two different nodes, which are not both hosts
abbrev pub EndsJoin : List ℕ → End → End → Type 0
EndsJoin nodes t h = Port nodes t × Port nodes h × (t.node.0 ≡ h.node.0 → ⊥) × (HostAt nodes t.node.0 → HostAt nodes h.node.0 → ⊥)

pub joined : (nodes : List ℕ) (cs : List Cable) → AllJoin nodes cs → (c : ℕ) → c < channels cs → EndsJoin nodes (tail_end cs c) (head_end cs c)
joined nodes cs all c h =
    let j = all (c / 2) (half_below cs c h) in
    both_ways (EndsJoin nodes) cs c j (j.1, j.0, λ e. j.2 (sym e), λ a b. j.3 b a)

-- the tails of the channels are nodes
pub tails_below : (nodes : List ℕ) (cs : List Cable) → KeepsRules nodes cs → (c : ℕ) → c < channels cs → (tail_end cs c).node.0 < length nodes
tails_below nodes cs rules c h = port_node nodes (tail_end cs c) (joined nodes cs rules.2 c h).0

pub kind_cases : (nodes : List ℕ) → KnownKinds nodes → (v : ℕ) → v < length nodes → HostAt nodes v ⊎ SwitchAt nodes v
kind_cases nodes known v h =
    let k = known v h in
    ⊎_elim (λ (e : get_or nodes v 0 ≡ 1). inl e) (λ (n : get_or nodes v 0 ≡ 1 → ⊥). inr (omega (arith, k.0, k.1))) (cases_eq (get_or nodes v 0) 1)

not_host : (nodes : List ℕ) → KnownKinds nodes → (e : End) → Port nodes e → (HostAt nodes e.node.0 → ⊥) → SwitchAt nodes e.node.0
not_host nodes known e p n = ⊎_elim (λ h. absurd (n h)) (λ h. h) (kind_cases nodes known e.node.0 (port_node nodes e p))

-- of the channels below n one leaves v, or none does
leaving_among : (cs : List Cable) (v n : ℕ) → ((c : ℕ) × (c < n) × ((tail_end cs c).node.0 ≡ v)) ⊎ ((c : ℕ) → c < n → (tail_end cs c).node.0 ≡ v → ⊥)
leaving_among cs v zero = inr (λ c l. absurd (omega arith))
leaving_among cs v (suc n) =
    ⊎_elim
    (λ (e : (tail_end cs n).node.0 ≡ v). inl (n, omega arith, e))
    (λ (other : (tail_end cs n).node.0 ≡ v → ⊥).
    ⊎_elim
    (λ (s : (c : ℕ) × (c < n) × ((tail_end cs c).node.0 ≡ v)). inl (s.0, omega (arith, s.1), s.2))
    (λ (m : (c : ℕ) → c < n → (tail_end cs c).node.0 ≡ v → ⊥).
    inr (λ c l is.
    ⊎_elim
    (λ (e : c ≡ n). other (subst (λ x. (tail_end cs x).node.0 ≡ v) e is))
    (λ (d : c ≡ n → ⊥). m c (omega arith) is)
    (cases_eq c n)))
    (leaving_among cs v n))
    (cases_eq (tail_end cs n).node.0 v)

pub uncabled : (cs : List Cable) (v : ℕ) → ((c : ℕ) → c < channels cs → (tail_end cs c).node.0 ≡ v → ⊥) → Uncabled cs v
uncabled cs v none_leaves k h =
    (λ e. none_leaves (2 * k) (omega arith) (ap (λ (x : End). x.node.0) (tail_even cs k) ∙ e), λ e. none_leaves (2 * k + 1) (omega arith) (ap (λ (x : End). x.node.0) (tail_odd cs k) ∙ e))

-- a host has one port, so one channel leaves it
pub out_once : (nodes : List ℕ) (cs : List Cable) → AllJoin nodes cs → Apart cs → (v b c : ℕ) → HostAt nodes v → b < channels cs → c < channels cs → (tail_end cs b).node.0 ≡ v → (tail_end cs c).node.0 ≡ v → b ≡ c
out_once nodes cs all apart v b c host h h' is is' =
    let p = (joined nodes cs all b h).0 in
    let q = (joined nodes cs all c h').0 in
    let one = host_port nodes (tail_end cs b) p (subst (HostAt nodes) (sym is) host) in
    let one' = host_port nodes (tail_end cs c) q (subst (HostAt nodes) (sym is') host) in
    apart b c (h, h', same_end _ _ (is ∙ sym is') (one ∙ sym one'))

-- the way back is the other channel of the same cable
odd : (c : ℕ) → (c % 2 ≡ 0 → ⊥) → c % 2 ≡ 1
odd c n = omega arith

pub back_half : (c : ℕ) → back c / 2 ≡ c / 2
back_half c =
    ⊎_elim
    (λ (e : c % 2 ≡ 0). rw e (omega arith))
    (λ (n : c % 2 ≡ 0 → ⊥). let e = odd c n in rw e (omega arith))
    (cases_eq (c % 2) 0)

pub back_back : (c : ℕ) → back (back c) ≡ c
back_back c =
    ⊎_elim
    (λ (e : c % 2 ≡ 0). let o : (c + 1) % 2 ≡ 1 = omega arith in rw (e, o) (omega arith))
    (λ (n : c % 2 ≡ 0 → ⊥). let e = odd c n in let o : (c - 1) % 2 ≡ 0 = omega arith in rw (e, o) (omega arith))
    (cases_eq (c % 2) 0)

pub back_below : (c n : ℕ) → c < 2 * n → back c < 2 * n
back_below c n h = omega (arith, back_half c)

-- channels of two cables are in the order of their ways back
pub back_order : (b c : ℕ) → b < c → (b / 2 ≡ c / 2 → ⊥) → back b < back c
back_order b c h n = omega (arith, back_half b, back_half c)

pub back_even_odd : (b c : ℕ) → b < c → b / 2 ≡ c / 2 → c ≡ back b
back_even_odd b c h same = let e : b % 2 ≡ 0 = omega arith in rw e (omega arith)

pub back_ends : (cs : List Cable) (c : ℕ) → (tail_end cs (back c) ≡ head_end cs c) × (head_end cs (back c) ≡ tail_end cs c)
back_ends cs c =
    ⊎_elim
    (λ (e : c % 2 ≡ 0).
    let o : (c + 1) % 2 ≡ 1 = omega arith in
    let d : (c + 1) / 2 ≡ c / 2 = omega arith in
    rw (e, o, d) (refl, refl))
    (λ (n : c % 2 ≡ 0 → ⊥).
    let e = odd c n in
    let o : (c - 1) % 2 ≡ 0 = omega arith in
    let d : (c - 1) / 2 ≡ c / 2 = omega arith in
    rw (e, o, d) (refl, refl))
    (cases_eq (c % 2) 0)

-- a channel's way back is a channel, whose way back it is, and leaves where the channel enters and enters where it leaves
pub ways_back :
    (r : Rack) (c : ℕ) → c < channel_count r →
    (back c < channel_count r) × (back (back c) ≡ c)
    × (tail r (back c) ≡ head r c) × (tail_port r (back c) ≡ head_port r c)
    × (head r (back c) ≡ tail r c) × (head_port r (back c) ≡ tail_port r c)
ways_back r c h =
    let b = back_ends (cables_of r) c in (
      back_below c (length (cables_of r)) h,
      back_back c,
      ap (λ (x : End). x.node.0) b.0,
      ap (λ (x : End). x.port.0) b.0,
      ap (λ (x : End). x.node.0) b.1,
      ap (λ (x : End). x.port.0) b.1,
    )

module _ (r : Rack) where
  pub few_channels : channel_count r ≤ 512
  few_channels = omega (arith, r.rules.0.1)

  ends : (c : ℕ) → c < channel_count r → EndsJoin (nodes_of r) (tail_end (cables_of r) c) (head_end (cables_of r) c)
  ends c h = joined (nodes_of r) (cables_of r) r.rules.2 c h

  -- a channel leaves a node and enters another, by ports 1 to 36
  pub tail_below : (c : ℕ) → c < channel_count r → tail r c < node_count r
  tail_below c h = port_node _ _ (ends c h).0

  pub head_below : (c : ℕ) → c < channel_count r → head r c < node_count r
  head_below c h = port_node _ _ (ends c h).1

  pub ends_differ : (c : ℕ) → c < channel_count r → tail r c ≡ head r c → ⊥
  ends_differ c h = (ends c h).2

  pub tail_port_within : (c : ℕ) → c < channel_count r → (1 ≤ tail_port r c) × (tail_port r c ≤ 36)
  tail_port_within c h = port_within (nodes_of r) (tail_end (cables_of r) c) (ends c h).0

  -- a node is a host or a switch and not both, and what is either is a node
  pub host_or_switch : (v : ℕ) → v < node_count r → Host r v ⊎ Switch r v
  host_or_switch v h = kind_cases (nodes_of r) r.rules.1 v h

  pub host_no_switch : (v : ℕ) → Host r v → Switch r v → ⊥
  host_no_switch v host switch = omega (arith, host, switch)

  pub host_below : (v : ℕ) → Host r v → v < node_count r
  host_below v host = in_table (nodes_of r) v 1 host (omega arith)

  pub switch_below : (v : ℕ) → Switch r v → v < node_count r
  switch_below v switch = in_table (nodes_of r) v 2 switch (omega arith)

  -- of the two ends of a channel one at least is a switch
  pub from_host : (c : ℕ) → c < channel_count r → Host r (tail r c) → Switch r (head r c)
  from_host c h host = not_host (nodes_of r) r.rules.1 _ (ends c h).1 (λ other. (ends c h).3 host other)

  -- by a port of a node one channel leaves at most
  pub same_port : (v p b c : ℕ) → LeavingBy r v p b → LeavingBy r v p c → b ≡ c
  same_port v p b c h k = r.rules.3 b c (h.0.0, k.0.0, same_end _ _ (h.0.1 ∙ sym k.0.1) (h.1 ∙ sym k.1))

  -- one channel leaves a host
  pub one_out : (v : ℕ) → Host r v → (c : ℕ) × Leaving r v c × ((d : ℕ) → Leaving r v d → d ≡ c)
  one_out v host =
      ⊎_elim
      (λ (s : (c : ℕ) × (c < channel_count r) × (tail r c ≡ v)).
      (s.0, (s.1, s.2), λ d l. out_once (nodes_of r) (cables_of r) r.rules.2 r.rules.3 v d s.0 host l.0 s.1 l.1 s.2))
      (λ (none_leaves : (c : ℕ) → c < channel_count r → tail r c ≡ v → ⊥). absurd (r.rules.4 v (host, uncabled (cables_of r) v none_leaves)))
      (leaving_among (cables_of r) v (channel_count r))

  -- and one enters it
  pub one_in : (v : ℕ) → Host r v → (c : ℕ) × Entering r v c × ((d : ℕ) → Entering r v d → d ≡ c)
  one_in v host =
      let one = one_out v host in
      let there = ways_back r one.0 one.1.0 in (
        back one.0,
        (there.0, there.4 ∙ one.1.1),
        λ d h. let b = ways_back r d h.0 in sym b.1 ∙ ap back (one.2 (back d) (b.0, b.2 ∙ h.1)),
      )
