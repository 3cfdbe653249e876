use Rattle.std.proofs.Common.{◌≡◌, ◌<◌, ◌≤◌, refl, sym, ◌∙◌, subst, ⊎_elim, arith}
use Rattle.std.proofs.lemmas.Bool.{false≢true, cases_lt, cases_eq}
use Rattle.rack.proofs.Facts.{host_below}
use Rattle.routing.specs.Paths.{PairOf}
use Rattle.routing.proofs.PairOrder.{row_before, row_behind}
use Rattle.routing.proofs.pairs.Pairs.next_of.Goals as goal

pub loop-v-init : goal.loop-v-init
loop-v-init c = λ w l p. row_before c.args.self.now.rack.now c.args.self.now.from c.args.sender.0 w _ _ _ c.node_count-nodes.ensures.0 c.from.ensures c.saturating_sub-v.ensures l

pub loop-v-preserved : goal.loop-v-preserved
loop-v-preserved c = λ w l p.
    ⊎_elim
    (λ (e : w ≡ c.loop-v.v). absurd (false≢true (sym c.if-joins_hosts.false ∙ c.joins_hosts.ensures.1 (subst (PairOf c.args.self.now.rack.now c.args.sender.0) e p))))
    (λ (other : w ≡ c.loop-v.v → ⊥). c.loop-v.invariant w (omega arith) p)
    (cases_eq w c.loop-v.v)

pub returns-then-joins_hosts : goal.returns-then-joins_hosts
returns-then-joins_hosts c = (
  refl,
  c.joins_hosts.ensures.0 c.if-joins_hosts.true,
  row_behind c.args.self.now.rack.now c.args.self.now.from c.args.sender.0 c.loop-v.v _ _ _ c.node_count-nodes.ensures.0 c.from.ensures c.saturating_sub-v.ensures c.loop-v.auto.v,
  λ w q l. ⊎_elim (λ (less : w < c.loop-v.v). absurd (omega (arith, l, c.loop-v.invariant w less q))) (λ (more : c.loop-v.v ≤ w). more) (cases_lt w c.loop-v.v),
)

pub returns : goal.returns
returns c = λ w p. let low = host_below c.args.self.now.rack.now w p.1 in c.loop-v.invariant w (omega (arith, c.node_count-nodes.ensures.0)) p
