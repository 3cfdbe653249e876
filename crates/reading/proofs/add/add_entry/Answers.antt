use Rattle.std.proofs.Common.{◌≡◌, ℕ, ◌+◌, ◌*◌, ◌<◌, length, get_or, sym, refl, ap, ◌∙◌, subst, inl, ⊎_elim, arith}
use Rattle.std.proofs.lemmas.List.{length_push}
use Rattle.std.proofs.lemmas.Result.{IfErr-at_err, err_from_is_err_and}
use Rattle.rack.specs.Network.{port_of, Leaves}
use Rattle.reading.specs.declared.fault.Rule.TheVariants.{Forwarding}
use Rattle.reading.specs.Rules.{Names, nothing}
use Rattle.reading.proofs.OneMore.{front}
use Rattle.reading.proofs.ForwardingPlaces.{below_count, place_within, forwarded_push}
use Rattle.reading.proofs.add.add_entry.Goals as goal
use Rattle.reading.proofs.add.add_entry.Goals.{In_ok-leaving}

pub returns-in_err-leaving : goal.returns-in_err-leaving
returns-in_err-leaving c = λ limits net s.
    let no_channel = rw c.in_err-leaving.ensures.ok_part at c.channel.ensures in
    let why : c.in_err-leaving.field-0.0 ≡ Forwarding = IfErr-at_err (λ e. e ≡ Forwarding) (sym (rw c.in_err-leaving.ensures.ok_part at c.in_err-leaving.ensures.value)) refl in
    let first = front s (omega arith) in
    let q = err_from_is_err_and c.from_residual.result c.from_residual.ensures.1 in
    rw (q.1, q.2, why) (inl (refl, λ all. no_channel all.2.0 (subst (λ l. Leaves l (port_of c.args.entry.switch.0 c.args.entry.port.0) all.2.0) (sym first) all.2.1)))

-- the switch and the host are nodes of the file
switch_below : (c : In_ok-leaving) → c.args.entry.switch.0 < c.args.counts.nodes
switch_below c = below_count _ _ _ 2 c.requires.beyond (c.is_switch_at.ensures.0 c.if-not-is_switch_at.false) (omega arith)

host_below : (c : In_ok-leaving) → c.args.entry.host.0 < c.args.counts.nodes
host_below c = below_count _ _ _ 1 c.requires.beyond (c.is_host_at.ensures.0 c.if-not-is_host_at.false) (omega arith)

within : (c : In_ok-leaving) → c.args.counts.nodes * c.args.entry.switch.0 + c.args.entry.host.0 < length c.args.forwarding.now
within c = let w = place_within c.args.counts.nodes c.args.entry.switch.0 c.args.entry.host.0 (omega arith) (switch_below c) (host_below c) in omega arith

pub bounds-forwarding-at : goal.bounds-forwarding-at
bounds-forwarding-at c = omega (arith, within (goal.at.bounds-forwarding-at c).In_ok-leaving, c.place-at.ensures)

pub bounds-forwarding-at-2 : goal.bounds-forwarding-at-2
bounds-forwarding-at-2 c = omega (arith, within (goal.at.bounds-forwarding-at-2 c).In_ok-leaving, c.place-at.ensures)

pub returns : goal.returns
returns c = λ limits net s.
    let some = (goal.at.returns c).In_ok-leaving in
    let w = c.args.entry.switch.0 in
    let v = c.args.entry.host.0 in
    let first = front s (omega arith) in
    let leaves : Leaves net.cables (port_of w c.args.entry.port.0) c.in_ok-leaving.leaving.0 = subst (λ l. Leaves l (port_of w c.args.entry.port.0) c.in_ok-leaving.leaving.0) first (rw c.in_ok-leaving.ensures.ok_part at c.channel.ensures) in
    let at : c.place-at.result ≡ length net.nodes * w + v = c.place-at.ensures ∙ ap (λ n. n * w + v) s.node_count in
    let blank : get_or c.args.forwarding.now c.place-at.result 0 ≡ 0 = omega arith in
    let zero : get_or c.args.forwarding.now (length net.nodes * w + v) 0 ≡ 0 = ap (λ i. get_or c.args.forwarding.now i 0) (sym at) ∙ blank in
    let low : v < length net.nodes = omega (arith, host_below some) in (
      (
        (
          sym (s.node w) ∙ c.is_switch_at.ensures.0 c.if-not-is_switch_at.false,
          sym (s.node v) ∙ c.is_host_at.ensures.0 c.if-not-is_host_at.false,
          (c.in_ok-leaving.leaving.0, leaves),
          ⊎_elim (λ (h : (get_or c.args.forwarding.now (length net.nodes * w + v) 0 ≡ 0) × ((k : ℕ) → k < length net.entries → Names (get_or net.entries k nothing) w v → ⊥)). h.1) (λ h. absurd (omega (arith, h.5))) (s.hop w v low),
        ),
        tt,
      ),
      record {
        node_count = s.node_count;
        cable_count = s.cable_count;
        entry_count = rw length_push (omega arith);
        node = s.node;
        cable = s.cable;
        hop = rw at (forwarded_push net.nodes net.cables net.entries c.args.entry c.args.forwarding.now (length net.nodes) c.in_ok-leaving.leaving.0 low (omega (arith, within some, at, c.place-at.ensures)) leaves s.hop);
        blank = λ none. absurd (omega (arith, length_push net.entries c.args.entry));
      },
    )
