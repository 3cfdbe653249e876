use Rattle.std.proofs.Common.{◌≡◌, length, set, vec_items, sym, refl, ap, ◌∙◌, subst, arith}
use Rattle.std.proofs.lemmas.Nat.{mul-add-lt}
use Rattle.std.proofs.lemmas.Result.{err_from_is_err_and, IfErr-at_err}
use Rattle.rack.specs.Racks.{node_count}
use Rattle.rack.proofs.Facts.{host_below}
use Rattle.builder.specs.declared.fault.BuildFault.TheVariants.{Level}
use Rattle.builder.specs.Method.{channels_of, Passes, Lowest, NoLevel, Claimed, tables}
use Rattle.builder.proofs.Fitting.{as_long}
use Rattle.builder.proofs.Pathed.{passes}
use Rattle.builder.proofs.Taking.{lacks_path}
use Rattle.builder.proofs.build.Builder.pair.Goals as goal

pub returns-in_err-walk-clause-answer : goal.returns-in_err-walk-clause-answer
returns-in_err-walk-clause-answer g c =
    let given = c.args.self.now.given.now in
    let q = err_from_is_err_and c.from_residual.result c.from_residual.ensures.1 in
    rw (q.1, q.2)
    (lacks_path given.rack.now (g.S.ForwardingSource.route given.source.now) given.lane_count c.args.pair (tables c.args.lanes.now c.args.levels.now) _ c.in_err-walk.ensures.answer)

pub returns-then-len-from-clause-answer : goal.returns-then-len-from-clause-answer
returns-then-len-from-clause-answer g c =
    let path = c.walk.new.self.path in
    (refl, (channels_of (vec_items path), c.in_ok-walk.ensures.answer, omega (arith, as_long (vec_items path), path.ok.0, c.len.ensures, c.from.ensures, c.if-len-from.true)))

pub returns-in_err-level-clause-answer : goal.returns-in_err-level-clause-answer
returns-in_err-level-clause-answer g c =
    let r = c.args.self.now.given.now.rack.now in
    let path = c.walk.new.self.path in
    let steps = vec_items path in
    let none = rw c.in_err-level.ensures.ok_part at c.lowest_level.ensures in
    let why : c.in_err-level.field-0.0 ≡ Level c.args.pair = IfErr-at_err (λ e. e ≡ Level c.args.pair) (sym (rw c.in_err-level.ensures.ok_part at c.in_err-level.ensures.value)) refl in
    let q = err_from_is_err_and c.from_residual-in_err-level.result c.from_residual-in_err-level.ensures.1 in
    rw (q.1, q.2, why) (refl, (channels_of steps, c.in_ok-walk.ensures.answer, omega (arith, as_long steps, path.ok.0, c.len.ensures, c.from.ensures, c.if-len-from.false), subst (λ xs. NoLevel r c.args.lanes.now (channels_of xs)) c.deref.ensures.value none))

pub claim_all-requires : goal.claim_all-requires
claim_all-requires g c =
    let given = c.args.self.now.given.now in
    let r = given.rack.now in
    let p = c.args.pair in
    let steps = vec_items c.walk.new.self.path in
    let all = passes r (g.S.ForwardingSource.route given.source.now) p.sender.0 p.receiver.0 c.requires.hosts (channels_of steps) c.in_ok-walk.ensures.answer in
    record {
      passes = subst (λ xs. Passes r (channels_of xs)) (sym c.deref-2.ensures.value) all;
      short = omega (arith, ap length c.deref-2.ensures.value, c.len.ensures, c.from.ensures, c.if-len-from.false, given.range.1);
      long = c.requires.long.0;
    }

pub bounds-levels-place : goal.bounds-levels-place
bounds-levels-place g c =
    let r = c.args.self.now.given.now.rack.now in
    let u = host_below r c.args.pair.sender.0 c.requires.hosts.0 in
    let v = host_below r c.args.pair.receiver.0 c.requires.hosts.1 in
    omega (arith, mul-add-lt c.args.pair.sender.0 (node_count r) c.args.pair.receiver.0 (node_count r) u v, c.place.ensures, c.requires.long.1)

pub returns-clause-answer : goal.returns-clause-answer
returns-clause-answer g c =
    let r = c.args.self.now.given.now.rack.now in
    let path = c.walk.new.self.path in
    let steps = vec_items path in
    let lanes = c.args.lanes.now in
    let s = c.in_ok-level.level.number in
    let lowest = rw c.in_ok-level.ensures.ok_part at c.lowest_level.ensures in
    record {
      path = channels_of steps;
      level = s;
      walked = c.in_ok-walk.ensures.answer;
      short = omega (arith, as_long steps, path.ok.0, c.len.ensures, c.from.ensures, c.if-len-from.false);
      placed =
          record {
            lowest = subst (λ xs. Lowest r lanes (channels_of xs) s) c.deref.ensures.value lowest;
            claimed = subst (λ xs. Claimed r (channels_of xs) s lanes c.claim_all.new.lanes) c.deref-2.ensures.value c.claim_all.ensures;
            told = ap (λ k. set c.args.levels.now k c.number.result) c.place.ensures ∙ ap (set c.args.levels.now _) c.number.ensures.same;
          };
    }
