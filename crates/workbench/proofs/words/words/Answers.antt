use Rattle.std.proofs.Common.{subst}
use Rattle.std.proofs.lemmas.List.{append-nil}
use Rattle.workbench.specs.Words.{WordsOf}
use Rattle.workbench.proofs.Taking.{taken_more, taken_end}
use Rattle.workbench.proofs.words.words.Goals as goal

pub loop-word-preserved : goal.loop-word-preserved
loop-word-preserved c = (tt, tt, rw c.in_ok-push.ensures.items (taken_more _ _ _ _ _ c.loop-word.invariant.2 c.in-Some.ensures.steps))

pub returns : goal.returns
returns c = subst (WordsOf c.args.line.now) (append-nil c.loop-word.words.items) (taken_end _ _ _ _ c.loop-word.invariant.2 c.in-None.ensures.steps)
