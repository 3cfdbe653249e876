use Rattle.std.proofs.Common.{◌≡◌, false, ◌&&◌, not, Some, sym, ◌∙◌}
use Rattle.std.proofs.lemmas.Bool.{and_left, and_right}
use Rattle.rack.specs.Racks.{head}
use Rattle.up_down.specs.Sources.{tier_of}
use Rattle.up_down.specs.Ways.{up}
use Rattle.up_down.specs.Tables.{FewestIs}
use Rattle.up_down.proofs.Beginnings.{begins_some}
use Rattle.up_down.proofs.source.UpDown.begin_by.Goals as goal
use Rattle.up_down.proofs.source.UpDown.begin_by.Goals.{else-down-via-then-down+else-up, else-down-via-else-down}

pub returns : goal.returns
returns c =
    let s = c.args.self.now in
    let r = s.rack.now in
    let tier = tier_of s.tiers.items in
    let d = c.args.channel.0 in
    let v = c.args.receiver.0 in
    let rises : c.is_up-up.result ≡ up r tier d = c.is_up-up.ensures c.requires.leaves.0 in
    let to : c.in_ok-ends.ends.head.node.0 ≡ head r d = (λ i. (c.in_ok-ends.ensures.2 i).node.0) in
    let allowed : c.args.down && up r tier d ≡ false =
    elim c.else-down.branch [
      | else-down-via-then-down+else-up w ↦ and_right c.args.down _ (sym rises ∙ w.if-up.false)
      | else-down-via-else-down w ↦ and_left c.args.down _ w.if-down.false
    ] in
    let far : FewestIs r tier v (not (up r tier d)) (head r d) (Some c.in_ok-left.left) = rw (rises, to, c.in_ok-left.was) at c.length.ensures in
    begins_some r c.requires.tiers.0 s.tiers.items c.requires.tiers.1 v c.args.node.0 c.args.down c.args.channel c.requires.leaves c.in_ok-left.left allowed far
