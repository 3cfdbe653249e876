use Rattle.std.proofs.Common.{sym, ◌∙◌, subst}
use Rattle.up_down.specs.Tables.{TiersIn}
use Rattle.up_down.proofs.Naming.{is_up_down}
use Rattle.up_down.proofs.source.UpDown.new.Goals as goal

pub returns : goal.returns
returns c =
    let r = c.args.rack.now in
    let root = c.args.root.0 in
    let one = c.fill_falling.ensures in
    let two = c.fill_rising.ensures in
    let same = two.0.rack ∙ one.0.rack in
    let tiers = subst (TiersIn r root) (sym (two.0.tiers ∙ one.0.tiers)) c.in_ok-tiers.ensures in
    (same, is_up_down c.fill_rising.new.self two.1 two.2 r root same (c.is_switch.ensures.0 c.if-not-is_switch.false) tiers)
