use Rattle.std.proofs.Common.{rules, ◌≡◌, None, is_some, ap, ◌∙◌, ⊎_elim}
use Rattle.std.proofs.lemmas.Bool.{both_ways}
use Rattle.checking.specs.Plans.{AllFine}
use Rattle.routing.specs.Paths.{Routing}
use Rattle.planning.specs.Plans.{planned}
use Rattle.report.specs.Refusals.{told}
use Rattle.workbench.specs.Tallies.{NoTally}
use Rattle.workbench.proofs.built.accepted.Goals as goal

pub prove-unreachable-requires : goal.prove-unreachable-requires
prove-unreachable-requires g c =
    let plan = c.args.plan in
    let R : Routing = planned c.args.rack.now (g.S.ForwardingSource.route c.args.source.now) plan.lanes.now in
    let none : NoTally R plan.levels.now plan.lane_count c.in-Err.refusal = c.in-Err.ensures in
    ⊎_elim
    (λ (n : told c.in-Err.refusal ≡ None). both_ways _ (ap is_some (c.tell-told.ensures ∙ n)) c.if-prove.ensures)
    (λ (n : AllFine R plan.levels.now plan.lane_count → ⊥). n c.requires.fine)
    none

pub returns : goal.returns
returns g c =
    record {
      fits = c.requires.fits;
      summary = c.in-Ok.summary;
      sums = c.in-Ok.ensures;
      text = search rules;
      file = search rules;
    }
