use Rattle.std.proofs.Common.{◌≡◌, inl, inr, arith}
use Rattle.std.proofs.lemmas.Result.{err_from_is_err_and, MatchResult-weaker}
use Rattle.reading.specs.Rules.{Sized}
use Rattle.report.specs.Reports.{Reads}
use Rattle.report.proofs.Outcomes.{written, unmade, reads, untold}
use Rattle.report.proofs.report.file_lines.Goals as goal
use Rattle.report.proofs.report.file_lines.Goals.{After-deref_mut-3, After-deref-2}

-- the tables are of the lengths needed
sized : (c : After-deref_mut-3) → Sized c.deref_mut.result.now c.deref_mut-2.result.now c.deref_mut-3.result.now
sized c = let made = c.in_ok-tables.ensures in (omega (arith, made.nodes), omega (arith, made.cables), omega (arith, made.forwarding))

-- the vectors show what was read
shown : (c : After-deref-2) → (c.deref.result.now ≡ c.read.new.nodes) × (c.deref-2.result.now ≡ c.read.new.cables)
shown c =
    let t = c.in_ok-tables.tables in
    (written t.nodes.items c.deref.ensures.value (omega arith), written t.cables.items c.deref-2.ensures.value (omega arith))

pub returns-in_err-counts : goal.returns-in_err-counts
returns-in_err-counts c =
    let q = err_from_is_err_and c.from_residual-in_err-counts.result c.from_residual-in_err-counts.ensures.1 in
    rw (q.1, q.2) (inr (c.at_most.result, _, _, _, c.at_most.ensures, c.in_err-counts.ensures.answers (sized (goal.at.returns-in_err-counts c).After-deref_mut-3)))

pub returns-in_err-rack : goal.returns-in_err-rack
returns-in_err-rack c =
    let q = err_from_is_err_and c.from_residual-in_err-rack.result c.from_residual-in_err-rack.ensures.1 in
    let same = shown (goal.at.returns-in_err-rack c).After-deref-2 in
    rw (q.1, q.2) (inl (unmade _ _ c.in_err-rack.field-0.0 c.in_ok-counts.ensures.rules (rw (same.0, same.1) at c.in_err-rack.ensures)))

pub returns : goal.returns
returns c =
    let file = c.args.file.now in
    let r = c.in_ok-rack.rack in
    let entries = c.in_ok-counts.counts.entries in
    let same = shown (goal.at.returns c).After-deref-2 in
    let forwarding : c.deref-3.result.now ≡ c.read.new.forwarding = written c.in_ok-tables.tables.forwarding.items c.deref-3.ensures.value (omega arith) in
    let read : Reads 12 16 file r entries c.read.new.forwarding =
    reads 12 16 file c.at_most.result c.in_ok-counts.counts c.read.new.nodes c.read.new.cables c.read.new.forwarding r c.at_most.ensures c.in_ok-counts.ensures.few (omega (arith, c.in_ok-tables.ensures.forwarding)) (c.in_ok-counts.ensures.answers (sized (goal.at.returns c).After-deref_mut-3)) (rw same.0 at c.in_ok-rack.ensures.0) (rw same.1 at c.in_ok-rack.ensures.1)
    in
    let answer = rw forwarding at c.rack_lines.ensures in
    MatchResult-weaker c.rack_lines.result answer (λ s x. (r, x.0, (entries, c.read.new.forwarding, read, x.1), x.2)) (λ f l. untold file r entries c.read.new.forwarding f read l)
