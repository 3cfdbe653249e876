use Rattle.std.proofs.Common.{sym, subst}
use Rattle.rack.specs.Index.{Listed, Ported}
use Rattle.rack.proofs.rack.Rack.from_tables.Goals as goal

pub invariant_of-result-clause-listed : goal.invariant_of-result-clause-listed
invariant_of-result-clause-listed c =
    let lists = c.in_ok-list_channels.field-0.items in
    subst (λ nodes. Listed nodes c.in_ok-from_slice-2.field-0.items lists) (sym c.in_ok-from_slice.ensures.items) (subst (λ cables. Listed c.args.nodes.now cables lists) (sym c.in_ok-from_slice-2.ensures.items) c.in_ok-list_channels.ensures)

pub invariant_of-result-clause-ported : goal.invariant_of-result-clause-ported
invariant_of-result-clause-ported c =
    let ports = c.in_ok-port_channels.field-0.items in
    subst (λ nodes. Ported nodes c.in_ok-from_slice-2.field-0.items ports) (sym c.in_ok-from_slice.ensures.items) (subst (λ cables. Ported c.args.nodes.now cables ports) (sym c.in_ok-from_slice-2.ensures.items) c.in_ok-port_channels.ensures)
