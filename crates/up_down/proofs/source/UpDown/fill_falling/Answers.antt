use Rattle.std.proofs.Common.{◌≡◌, ◌-◌, ◌*◌, ◌%◌, ◌≤◌, ◌⊎◌, true, sym, ap, ◌∙◌, subst, arith}
use Rattle.rack.specs.Racks.{node_count}
use Rattle.up_down.proofs.Filling.{same_then}
use Rattle.up_down.proofs.Passing.{from_on, at_place, no_place, node_below, rows_skip, rows_more, ready_falling}
use Rattle.up_down.proofs.source.UpDown.fill_falling.Goals as goal

pub fill_row-requires-clause-ready : goal.fill_row-requires-clause-ready
fill_row-requires-clause-ready c =
    let old = c.args.self.now in
    let s = c.loop-at.self in
    let m = c.node_count-nodes.result in
    let q = c.loop-at.at in
    let same = c.loop-at.invariant.0 in
    let at = at_place old s same m (q - 1) c.tier.result c.node_count-nodes.ensures.0 c.tier.ensures (sym c.from-in-loop-at.ensures ∙ c.if-from-at.true) in
    ready_falling old s same ((q - 1) % m) (λ w low after. c.loop-at.invariant.1 w low (omega (arith, after, at)))

pub loop-at-preserved-then-from-at : goal.loop-at-preserved-then-from-at
loop-at-preserved-then-from-at c =
    let old = c.args.self.now in
    let s = c.loop-at.self in
    let m = c.node_count-nodes.result in
    let q = c.loop-at.at in
    let inv = c.loop-at.invariant in
    let count : m ≡ node_count old.rack.now = c.node_count-nodes.ensures.0 in
    let inside : q ≤ m * 255 = omega (arith, inv.2, ap (λ n. n * 255) count) in
    let low = node_below old s inv.0 m (q - 1) c.tier.result count c.tier.ensures (omega (arith, inside, c.loop-at-test.true)) in
    let at = at_place old s inv.0 m (q - 1) c.tier.result count c.tier.ensures (sym c.from-in-loop-at.ensures ∙ c.if-from-at.true) in
    let filled = c.fill_row.ensures in (
      same_then old s c.fill_row.new.self inv.0 filled.same,
      rows_more old s inv.0 c.fill_row.new.self true (λ k. q ≤ k) (λ k. q - 1 ≤ k) ((q - 1) % m) low (λ k over. subst (λ x. (k ≡ x) ⊎ (q ≤ k)) (sym at) (from_on q k c.loop-at-test.true over)) filled inv.1,
      omega (arith, inv.2),
    )

pub loop-at-preserved : goal.loop-at-preserved
loop-at-preserved c =
    let old = c.args.self.now in
    let s = c.loop-at.self in
    let q = c.loop-at.at in
    let inv = c.loop-at.invariant in
    let none = no_place old s inv.0 c.node_count-nodes.result (q - 1) c.tier.result c.node_count-nodes.ensures.0 c.tier.ensures (λ e. c.if-from-at.false (c.from-in-loop-at.ensures ∙ e)) in
    (inv.0, rows_skip old s inv.0 true (λ k. q ≤ k) (λ k. q - 1 ≤ k) (q - 1) (λ k over. from_on q k c.loop-at-test.true over) none inv.1, omega (arith, inv.2))
