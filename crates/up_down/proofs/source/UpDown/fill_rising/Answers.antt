use Rattle.std.proofs.Common.{◌≡◌, ◌+◌, ◌%◌, ◌<◌, ◌⊎◌, false, sym, ap, ◌∙◌, subst, arith}
use Rattle.rack.specs.Racks.{node_count}
use Rattle.up_down.proofs.Beginnings.{order_below}
use Rattle.up_down.proofs.Filling.{same_then}
use Rattle.up_down.proofs.Passing.{Rows, up_to, at_place, no_place, node_below, rows_skip, rows_more, rows_other, ready_rising}
use Rattle.up_down.proofs.source.UpDown.fill_rising.Goals as goal
use Rattle.up_down.proofs.source.UpDown.fill_rising.Goals.{then-from-at, else-from-at}

pub fill_row-requires-clause-ready : goal.fill_row-requires-clause-ready
fill_row-requires-clause-ready c =
    let old = c.args.self.now in
    let s = c.loop-at.self in
    let m = c.node_count-nodes.result in
    let p = c.loop-at.at in
    let same = c.loop-at.invariant.0 in
    let at = at_place old s same m p c.tier.result c.node_count-nodes.ensures.0 c.tier.ensures (sym c.from-in-loop-at.ensures ∙ c.if-from-at.true) in
    ready_rising old s same (p % m) c.loop-at.invariant.1 (subst (λ k. Rows old s false (λ x. x < k)) (sym at) c.loop-at.invariant.2)

pub loop-at-preserved : goal.loop-at-preserved
loop-at-preserved c =
    let old = c.args.self.now in
    let s = c.loop-at.self in
    let m = c.node_count-nodes.result in
    let p = c.loop-at.at in
    let inv = c.loop-at.invariant in
    let count : m ≡ node_count old.rack.now = c.node_count-nodes.ensures.0 in
    let low = node_below old s inv.0 m p c.tier.result count c.tier.ensures (rw (c.from.ensures) at c.loop-at-test.true) in
    elim c.if-from-at.branch [
      | then-from-at b ↦
          let at = at_place old s inv.0 m p c.tier.result count c.tier.ensures (sym c.from-in-loop-at.ensures ∙ b.if-from-at.true) in
          let new = b.fill_row.new.self in
          let filled = b.fill_row.ensures in
          rw (b.self-is) (
            same_then old s new inv.0 filled.same,
            rows_other old s inv.0 new (λ k. Unit {0}) (p % m) filled inv.1,
            rows_more old s inv.0 new false (λ k. k < p) (λ k. k < p + 1) (p % m) low (λ k under. subst (λ x. (k ≡ x) ⊎ (k < p)) (sym at) (up_to p k under)) filled inv.2,
          )
      | else-from-at b ↦
          let none = no_place old s inv.0 m p c.tier.result count c.tier.ensures (λ e. b.if-from-at.false (c.from-in-loop-at.ensures ∙ e)) in
          rw (b.self-is) (inv.0, inv.1, rows_skip old s inv.0 false (λ k. k < p) (λ k. k < p + 1) p (up_to p) none inv.2)
    ]

pub returns : goal.returns
returns c =
    let old = c.args.self.now in
    let same = c.loop-at.invariant.0 in
    let count : node_count c.loop-at.self.rack.now ≡ node_count old.rack.now = ap node_count same.rack in (
      same,
      λ w low. c.loop-at.invariant.1 w (omega (arith, low, count)) tt,
      λ w low.
          let inside : w < node_count old.rack.now = omega (arith, low, count) in
          let below = order_below old.rack.now c.requires.given.0 old.tiers.items c.requires.given.1.tiers w inside in
          let all = rw (c.from.ensures, c.node_count-nodes.ensures.0) at c.loop-at-test.false in
          c.loop-at.invariant.2 w inside (omega (arith, below, all)),
    )
