use Rattle.std.proofs.Common.{sym, ◌∙◌, subst, arith}
use Rattle.std.proofs.lemmas.Bool.{eqb-false}
use Rattle.up_down.specs.Sources.{tier_of}
use Rattle.up_down.specs.Tables.{BeginIs}
use Rattle.up_down.proofs.Beginnings.{most_small, fewest_none, fewest_some}
use Rattle.up_down.proofs.source.UpDown.length.Goals as goal

pub overflow_add-result : goal.overflow_add-result
overflow_add-result c =
    let s = c.args.self.now in
    let small = most_small s.rack.now c.requires.tiers.0 s.tiers.items c.requires.tiers.1 c.args.down c.args.node.0 c.requires.nodes.0 in
    let some = subst (BeginIs s.rack.now (tier_of s.tiers.items) c.args.receiver.0 c.args.down c.args.node.0) (sym c.told.ensures ∙ c.in_ok-begin.was) (c.requires.row c.args.receiver.0 c.requires.nodes.1) in
    omega (arith, small, some.1)

pub returns-in_err-begin : goal.returns-in_err-begin
returns-in_err-begin c =
    let s = c.args.self.now in
    let none = subst (BeginIs s.rack.now (tier_of s.tiers.items) c.args.receiver.0 c.args.down c.args.node.0) (sym c.told.ensures ∙ c.in_err-begin.was) (c.requires.row c.args.receiver.0 c.requires.nodes.1) in
    rw (c.from_residual.ensures) (fewest_none s.rack.now c.requires.tiers.0 s.tiers.items c.requires.tiers.1 c.args.receiver.0 c.args.node.0 c.args.down (eqb-false _ _ (sym c.if-eq.ensures)) none)

pub returns : goal.returns
returns c =
    let s = c.args.self.now in
    let some = subst (BeginIs s.rack.now (tier_of s.tiers.items) c.args.receiver.0 c.args.down c.args.node.0) (sym c.told.ensures ∙ c.in_ok-begin.was) (c.requires.row c.args.receiver.0 c.requires.nodes.1) in
    fewest_some s.rack.now c.requires.tiers.0 s.tiers.items c.requires.tiers.1 c.args.receiver.0 c.args.node.0 c.args.down c.in_ok-begin.begin (eqb-false _ _ (sym c.if-eq.ensures)) some
