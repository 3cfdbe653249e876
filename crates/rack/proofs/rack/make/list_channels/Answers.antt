use Rattle.std.proofs.Common.{◌<◌, ◌∷◌, [], ◌++◌, length, refl, ap, ◌∙◌, add-one, arith}
use Rattle.std.proofs.lemmas.List.{length-set}
use Rattle.rack.specs.declared.cable.End.{End}
use Rattle.rack.proofs.Facts.{tails_below}
use Rattle.rack.proofs.Lists.{list_at, listed_more}
use Rattle.rack.proofs.rack.make.list_channels.Goals as goal

pub index_mut-requires : goal.index_mut-requires
index_mut-requires c =
    omega (arith, c.loop-number.invariant.long, c.from.ensures, ap (λ (x : End). x.node.0) c.ends.ensures.tail, tails_below c.args.nodes.now c.args.cables.now c.requires c.loop-number.number (omega arith))

pub loop-number-preserved : goal.loop-number-preserved
loop-number-preserved c =
    let old = c.loop-number.invariant in
    let rows = c.loop-number.lists.items in
    let n = c.loop-number.number in
    let t = c.from.result in
    let is = ap (λ (x : End). x.node.0) c.ends.ensures.tail in
    let low : t < length rows = omega (arith, old.long, c.from.ensures, is, tails_below c.args.nodes.now c.args.cables.now c.requires n (omega arith)) in
    let pushed = c.in_ok-push.ensures.items ∙ ap (λ l. l ++ record { 0 = n } ∷ []) (list_at rows rows t t c.index_mut.result.now refl refl low c.index_mut.ensures.value) in
    record {
      long = length-set rows t _ ∙ old.long;
      lists = rw add-one (listed_more c.args.cables.now rows n t c.push.new.self low (omega (arith, c.from.ensures, is)) pushed old.lists);
    }
