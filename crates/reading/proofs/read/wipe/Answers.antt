use Rattle.std.proofs.Common.{refl}
use Rattle.rack.proofs.ShownTables.{all_one}
use Rattle.reading.proofs.read.wipe.Goals as goal

pub returns : goal.returns
returns c = (all_one _ _ _ _ (c.fill.ensures.after (λ y e. e)) refl, all_one _ _ _ _ (c.fill-2.ensures.after (λ y e. e)) c.none.ensures, all_one _ _ _ _ (c.fill-3.ensures.after (λ y e. e)) refl)
