use Rattle.std.proofs.Common.{◌≡◌, ◌+◌, true, length, get_or, sym, ◌∙◌, subst, arith}
use Rattle.std.proofs.lemmas.Iterator.{YieldsList-from_slice, YieldsList-from_zip}
use Rattle.std.proofs.lemmas.Iterator.Adapters.{YieldsList-from_skip}
use Rattle.std.proofs.lemmas.Iterator.Consumers.{YieldsList-turn, YieldsList-end}
use Rattle.std.proofs.lemmas.List.{get_or_read, length_push}
use Rattle.routing.specs.declared.walk.Step.{Step}
use Rattle.routing.specs.Turns.{turns}
use Rattle.checking.specs.Marks.{Adds, ListSays}
use Rattle.checking.proofs.Adding.{adds_none}
use Rattle.checking.proofs.Marking.{length-pairs, pair_at, list_more}
use Rattle.checking.proofs.marks.mark_path.Goals as goal

pub loop-one-init : goal.loop-one-init
loop-one-init c = ((tt, tt), tt, adds_none (ListSays c.args.rack.now c.args.path.now 0) c.args.marks.now (λ k b h. omega (arith, h.1)))

pub mark-requires-clause-turn : goal.mark-requires-clause-turn
mark-requires-clause-turn c =
    let r = c.args.rack.now in
    let path = c.args.path.now in
    let a = c.in-Some.one.now in
    let b = c.in-Some.other.now in
    let n = length c.loop-one.yielded in
    let t = YieldsList-turn (YieldsList-from_zip {s = c.into_iter-one-iterator.result} (YieldsList-from_slice path cc) (YieldsList-from_skip 1 (YieldsList-from_slice path cc) cc)) c.loop-one.yielded c.loop-one.one-iterator c.loop-one.yielded_by c.next.result c.next.new.self (c.in-Some.one, c.in-Some.other) c.in-Some.is c.next.ensures.steps in
    let at = pair_at path n (a, b) t.0 t.1 in
    let here = subst (λ (x : Step). turns r x.channel.0 (get_or path (n + 1) a).channel.0 ≡ true) (sym at.1) (c.requires.turn n a at.0) in
    subst (λ (x : Step). turns r a.channel.0 x.channel.0 ≡ true) (sym (get_or_read path (n + 1) b at.0 at.2 a)) here

pub loop-one-preserved : goal.loop-one-preserved
loop-one-preserved c =
    let r = c.args.rack.now in
    let path = c.args.path.now in
    let a = c.in-Some.one.now in
    let b = c.in-Some.other.now in
    let n = length c.loop-one.yielded in
    let t = YieldsList-turn (YieldsList-from_zip {s = c.into_iter-one-iterator.result} (YieldsList-from_slice path cc) (YieldsList-from_skip 1 (YieldsList-from_slice path cc) cc)) c.loop-one.yielded c.loop-one.one-iterator c.loop-one.yielded_by c.next.result c.next.new.self (c.in-Some.one, c.in-Some.other) c.in-Some.is c.next.ensures.steps in
    let at = pair_at path n (a, b) t.0 t.1 in
    ((tt, tt), tt, subst (λ m. Adds (ListSays r path m) c.args.marks.now c.mark.new.marks) (sym (length_push c.loop-one.yielded (c.in-Some.one, c.in-Some.other))) (list_more r path n a b c.args.marks.now c.loop-one.marks c.mark.new.marks at.0 at.1 at.2 c.loop-one.invariant.2 c.mark.ensures))

pub returns : goal.returns
returns c =
    let path = c.args.path.now in
    let t = YieldsList-end (YieldsList-from_zip {s = c.into_iter-one-iterator.result} (YieldsList-from_slice path cc) (YieldsList-from_skip 1 (YieldsList-from_slice path cc) cc)) c.loop-one.yielded c.loop-one.one-iterator c.loop-one.yielded_by c.next.result c.next.new.self c.in-None.is c.next.ensures.steps in
    subst (λ m. Adds (ListSays c.args.rack.now path m) c.args.marks.now c.loop-one.marks) (t.1 ∙ length-pairs path) c.loop-one.invariant.2
