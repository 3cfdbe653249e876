use Rattle.std.proofs.Common.{◌-◌, ◌<◌, length, sym, ◌∙◌, inl, inr, ⊎_elim, arith}
use Rattle.std.proofs.lemmas.Bool.{false≢true}
use Rattle.builder.specs.Method.{channels_of}
use Rattle.builder.proofs.Fitting.{as_long, own_at, fitting_more, fitting_fails}
use Rattle.builder.proofs.turns.fits.Goals as goal
use Rattle.builder.proofs.turns.fits.Goals.{else-own-ne0-via-then-own-ne0+else-own-j, else-own-ne0-via-else-own-ne0}

pub returns-then-own-j : goal.returns-then-own-j
returns-then-own-j c =
    let steps = c.args.path.now in
    let last : c.loop-j.j < length steps - 2 = omega arith in
    let is = own_at c.args.rack.now steps c.loop-j.j _ _ c.loop-j.auto.j last c.args.lanes.now c.args.level.number _ (c.from-own.ensures ∙ c.number.ensures.same ∙ c.lane-entry.ensures) in (
      λ e. absurd (false≢true e),
      λ h. absurd (fitting_fails c.args.rack.now (channels_of steps) c.args.level.number c.args.lanes.now c.loop-j.j c.loop-j.auto.j (omega (arith, as_long steps)) (λ room. ⊎_elim (λ e. c.if-own-ne0.true (is ∙ e)) (λ e. c.if-own-j.true (is ∙ e)) room) h),
    )

pub loop-j-preserved : goal.loop-j-preserved
loop-j-preserved c =
    let steps = c.args.path.now in
    let last : c.loop-j.j < length steps - 2 = omega arith in
    let is = own_at c.args.rack.now steps c.loop-j.j _ _ c.loop-j.auto.j last c.args.lanes.now c.args.level.number _ (c.from-own.ensures ∙ c.number.ensures.same ∙ c.lane-entry.ensures) in
    fitting_more c.args.rack.now (channels_of steps) c.args.level.number c.args.lanes.now c.loop-j.j c.loop-j.invariant
    (elim c.else-own-ne0.branch [
      | else-own-ne0-via-then-own-ne0+else-own-j w ↦ inr (sym is ∙ w.if-own-j.false)
      | else-own-ne0-via-else-own-ne0 w ↦ inl (sym is ∙ w.if-own-ne0.false)
    ])
