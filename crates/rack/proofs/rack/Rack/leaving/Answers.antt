use Rattle.std.proofs.Common.{sym, ◌∙◌, subst, vec_items}
use borrow.Author.Tests.{ltb-true}
use Rattle.rack.specs.Index.{Lists}
use Rattle.rack.specs.Racks.{Leaving}
use Rattle.rack.proofs.Lists.{list_at, rack_lists}
use Rattle.rack.proofs.rack.Rack.leaving.Goals as goal

pub returns-in-Some : goal.returns-in-Some
returns-in-Some c =
    let r = c.args.self.now in
    let v = c.args.node.0 in
    let at = c.in-Some.ensures.lookup in
    let same = c.deref-in-Some.ensures.value ∙ list_at (vec_items r.leaving) c.deref.result.now v c.from.result c.in-Some.channels.now c.deref.ensures.value c.from.ensures (ltb-true _ _ (sym at.0)) at.1 in
    subst (Lists (Leaving r v)) (sym same) (rack_lists r v)
