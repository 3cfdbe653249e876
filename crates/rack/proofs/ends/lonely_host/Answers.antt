use Rattle.std.proofs.Common.{◌≤◌, length, ⊎_elim, arith}
use Rattle.std.proofs.lemmas.List.{get_or_past}
use Rattle.std.proofs.lemmas.Bool.{cases_lt}
use Rattle.rack.proofs.ends.lonely_host.Goals as goal

pub returns : goal.returns
returns c = λ u lonely.
    ⊎_elim (λ h. c.loop-node.invariant u (omega arith) lonely) (λ (h : length c.args.nodes.now ≤ u). omega (arith, get_or_past c.args.nodes.now u 0 h, lonely.0)) (cases_lt u (length c.args.nodes.now))
