use Rattle.std.proofs.Common.{◌≡◌, set, slice_index, sym, ap, ◌∙◌, ⊎_elim, arith}
use Rattle.std.proofs.lemmas.Bool.{cases_eq}
use Rattle.std.proofs.lemmas.List.{get_or-set_same, get_or-set_other, length-set}
use Rattle.rack.proofs.Facts.{few_channels}
use Rattle.routing.specs.Sources.{numbers, entry_of, downhill_route}
use Rattle.workbench.proofs.Downhills.{downhill_low, entry_some}
use Rattle.workbench.proofs.forwarding.fill_row.Goals as goal
use Rattle.workbench.proofs.forwarding.fill_row.Goals.{in-Some, in-None}

pub overflow_add-row : goal.overflow_add-row
overflow_add-row c =
    let source = c.args.source.now in
    let low = downhill_low source.rack.now source.distances.now c.args.arriving.0 c.loop-node.node c.in-Some.next.0 (sym c.next_channel.ensures ∙ ap numbers c.in-Some.is) in
    omega (arith, low, few_channels source.rack.now)

pub loop-node-preserved : goal.loop-node-preserved
loop-node-preserved c =
    let source = c.args.source.now in
    let n = c.loop-node.node in
    let x = c.match-next_channel.row in
    let entry : entry_of x ≡ downhill_route source.rack.now source.distances.now c.args.arriving.0 n =
    elim c.match-next_channel.branch [
      | in-Some w ↦ entry_some x w.in-Some.next.0 w.row-is ∙ ap numbers (sym w.in-Some.is) ∙ c.next_channel.ensures
      | in-None w ↦ ap entry_of w.row-is ∙ ap numbers (sym w.in-None.is) ∙ c.next_channel.ensures
    ] in (
      length-set c.loop-node.row n x ∙ c.loop-node.invariant.0,
      λ v low.
          ⊎_elim
          (λ (here : v ≡ n).
          ap (λ k. entry_of (slice_index (set c.loop-node.row n x) k)) here ∙ ap entry_of (get_or-set_same c.loop-node.row n x 0 (omega (arith, c.loop-node.invariant.0, c.loop-node-test.true)))
          ∙ entry ∙ ap (downhill_route source.rack.now source.distances.now c.args.arriving.0) (sym here))
          (λ (other : v ≡ n → ⊥). ap entry_of (get_or-set_other c.loop-node.row n v x 0 other) ∙ c.loop-node.invariant.1 v (omega arith))
          (cases_eq v n),
    )
