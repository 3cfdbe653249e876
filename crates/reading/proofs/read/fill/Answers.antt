use Rattle.std.proofs.Common.{◌≡◌, ◌+◌, ◌*◌, ◌/◌, length, drop, Err, sym, ◌∙◌, ap, subst, arith, rules, below_more}
use Rattle.std.proofs.lemmas.List.{length-take}
use Rattle.reading.specs.declared.fault.FileFault.TheVariants.{Record as Broken}
use Rattle.reading.specs.Format.{said, decoded}
use Rattle.reading.specs.Rules.{Described, Shown, Kept, Fine, Breaks, asked, grown, described, Answers}
use Rattle.reading.proofs.OneMore.{described_more, Bounds, bounds_more, lonely_alike}
use Rattle.reading.proofs.Records.{record_here, records_end}
use Rattle.reading.proofs.read.fill.Goals as goal
use Rattle.reading.proofs.read.fill.Goals.{In-None}

pub loop-record-preserved : goal.loop-record-preserved
loop-record-preserved c =
    let f = c.args.file.now in
    let limits = c.args.limits in
    let i = c.loop-record.record-iterator.count in
    let s = c.loop-record.invariant.5 in
    let taken = c.in-Some.ensures.steps in
    let here = record_here f c.in-Some.bytes.now _ i (sym c.loop-record.invariant.3 ∙ taken.0.1.0) (taken.0.1.1 ∙ c.loop-record.invariant.2) in
    let told = c.in-Ok.ensures (described f i) s in
    let kept : Kept (asked limits (described f i) (said f i)) = subst (λ b. Kept (asked limits (described f i) (decoded b))) (sym here.0) told.0 in
    let bounds : Bounds (described f i) i = (omega (arith, s.node_count), omega (arith, s.cable_count), omega (arith, s.entry_count)) in
    let more = bounds_more limits (described f i) i (said f i) kept bounds in
    let shown : Shown (grown (described f i) (said f i)) c.in-Ok.next c.step.new.nodes c.step.new.cables c.step.new.forwarding = subst (λ b. Shown (grown (described f i) (decoded b)) c.in-Ok.next c.step.new.nodes c.step.new.cables c.step.new.forwarding) (sym here.0) told.1 in
    let fine : Fine limits f (i + 1) = below_more (λ j. Kept (asked limits (described f j) (said f j))) i c.loop-record.invariant.6 kept in (
      search rules,
      tt,
      taken.0.0 ∙ c.loop-record.invariant.2,
      here.1 ∙ ap (λ k. drop (8 * k) f) (sym taken.2),
      omega (arith, here.2, taken.2),
      subst (λ k. Shown (described f k) c.in-Ok.next c.step.new.nodes c.step.new.cables c.step.new.forwarding) (sym taken.2)
          (subst (λ (net : Described). Shown net c.in-Ok.next c.step.new.nodes c.step.new.cables c.step.new.forwarding) (sym (described_more f i)) shown),
      subst (Fine limits f) (sym taken.2) fine,
      omega (arith, shown.node_count, more.0),
      omega (arith, shown.cable_count, more.1),
      omega (arith, shown.entry_count, more.2, taken.2),
    )

pub returns-in-Err : goal.returns-in-Err
returns-in-Err c =
    let f = c.args.file.now in
    let i = c.loop-record.record-iterator.count in
    let taken = c.in-Some.ensures.steps in
    let here = record_here f c.in-Some.bytes.now _ i (sym c.loop-record.invariant.3 ∙ taken.0.1.0) (taken.0.1.1 ∙ c.loop-record.invariant.2) in
    let told = c.in-Err.ensures (described f i) c.loop-record.invariant.5 in
    let broken = subst (λ b. Breaks (asked c.args.limits (described f i) (decoded b)) c.in-Err.rule) (sym here.0) told in
    subst (λ k. Answers c.args.limits f (Err (Broken k c.in-Err.rule)) c.step.new.nodes c.step.new.cables c.step.new.forwarding) (omega (arith, taken.1))
    (c.if-file-ne0.false, omega (arith, here.2), c.loop-record.invariant.6, broken)

-- at the end every record is read
ended : (c : In-None) → c.loop-record.record-iterator.count ≡ length c.args.file.now / 8
ended c = records_end c.args.file.now _ _ c.loop-record.invariant.3 (omega (arith, c.in-None.ensures.steps.0.1.0, c.loop-record.invariant.2)) c.loop-record.invariant.4

-- and the tables show what the file describes
all_shown : (c : In-None) → Shown (described c.args.file.now (length c.args.file.now / 8)) c.loop-record.counts c.loop-record.nodes c.loop-record.cables c.loop-record.forwarding
all_shown c = rw (ended c) at c.loop-record.invariant.5

all_fine : (c : In-None) → Fine c.args.limits c.args.file.now (length c.args.file.now / 8)
all_fine c = rw (ended c) at c.loop-record.invariant.6

pub returns-in-Some-lonely_host : goal.returns-in-Some-lonely_host
returns-in-Some-lonely_host c =
    let end = (goal.at.returns-in-Some-lonely_host c).In-None in
    let alike = lonely_alike (all_shown end) (omega (arith, length-take c.loop-record.counts.cables c.loop-record.cables)) in
    let told = c.in-Some-lonely_host.ensures in
    (c.if-file-ne0.false, all_fine end, (alike c.in-Some-lonely_host.host).0 told.0, λ u low alone. told.1 u low ((alike u).1 alone))

pub returns-in-None-lonely_host : goal.returns-in-None-lonely_host
returns-in-None-lonely_host c =
    let end = (goal.at.returns-in-None-lonely_host c).In-None in
    let alike = lonely_alike (all_shown end) (omega (arith, length-take c.loop-record.counts.cables c.loop-record.cables)) in
    (c.if-file-ne0.false, all_fine end, λ u alone. c.in-None-lonely_host.ensures u ((alike u).1 alone), all_shown end)
