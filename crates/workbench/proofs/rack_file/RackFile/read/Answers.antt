use Rattle.std.proofs.Common.{◌≡◌, ◌++◌, length, take, drop, refl, ap, ◌∙◌, inl, inr, arith}
use Rattle.std.proofs.lemmas.Result.{err_from_is_err_and}
use Rattle.reading.specs.Rules.{Sized}
use Rattle.routing.specs.Sources.{stored_route}
use Rattle.report.specs.Reports.{Reads}
use Rattle.report.proofs.Outcomes.{written, unmade, reads}
use Rattle.workbench.proofs.rack_file.RackFile.read.Goals as goal
use Rattle.workbench.proofs.rack_file.RackFile.read.Goals.{After-deref_mut-3, After-deref-2, then-counts-gt0, else-counts-gt0+in_ok-forwarding}

-- the tables are of the lengths needed
sized : (c : After-deref_mut-3) → Sized c.deref_mut.result.now c.deref_mut-2.result.now c.deref_mut-3.result.now
sized c = let made = c.in_ok-tables.ensures in (omega (arith, made.nodes), omega (arith, made.cables), omega (arith, made.forwarding))

-- the vectors show what was read
shown : (c : After-deref-2) → (c.deref.result.now ≡ c.read.new.nodes) × (c.deref-2.result.now ≡ c.read.new.cables)
shown c =
    let t = c.in_ok-tables.tables in
    (written t.nodes.items c.deref.ensures.value (omega arith), written t.cables.items c.deref-2.ensures.value (omega arith))

pub returns-in_err-counts : goal.returns-in_err-counts
returns-in_err-counts c =
    let q = err_from_is_err_and c.from_residual-in_err-counts.result c.from_residual-in_err-counts.ensures.1 in
    rw (q.1, q.2) (inr (c.in_err-counts.field-0.0, c.at_most.result, _, _, _, refl, c.at_most.ensures, c.in_err-counts.ensures.answers (sized (goal.at.returns-in_err-counts c).After-deref_mut-3)))

pub returns-in_err-rack : goal.returns-in_err-rack
returns-in_err-rack c =
    let q = err_from_is_err_and c.from_residual-in_err-rack.result c.from_residual-in_err-rack.ensures.1 in
    let same = shown (goal.at.returns-in_err-rack c).After-deref-2 in
    rw (q.1, q.2) (inl (unmade _ _ c.in_err-rack.field-0.0 c.in_ok-counts.ensures.rules (rw (same.0, same.1) at c.in_err-rack.ensures)))

pub returns : goal.returns
returns c =
    let same = shown (goal.at.returns c).After-deref-2 in
    let file = c.args.file.now in
    let r = c.in_ok-rack.rack in
    let entries = c.in_ok-counts.counts.entries in
    let given = c.read.new.forwarding in
    let held = c.in_ok-tables.ensures in
    let found : take c.in_ok-tables.tables.forwarding.len (given ++ drop (length given) c.in_ok-tables.tables.forwarding.items) ≡ given =
    written c.in_ok-tables.tables.forwarding.items refl (omega (arith, c.read.auto.forwarding))
    in
    let read : Reads 128 256 file r entries given =
    reads 128 256 file c.at_most.result c.in_ok-counts.counts c.read.new.nodes c.read.new.cables given r c.at_most.ensures c.in_ok-counts.ensures.few (omega (arith, held.forwarding)) (c.in_ok-counts.ensures.answers (sized (goal.at.returns c).After-deref_mut-3)) (rw same.0 at c.in_ok-rack.ensures.0) (rw same.1 at c.in_ok-rack.ensures.1)
    in
    elim c.if-counts-gt0.branch [
      | then-counts-gt0 w ↦ record {
        entries = entries;
        forwarding = given;
        route = stored_route r given;
        reads = read;
        forwards = inl (omega (arith, w.if-counts-gt0.true), refl);
        answers = λ b v. ap (λ t. stored_route r t b v) ((λ i. (w.forwarding-is i).items) ∙ found);
      }
      | else-counts-gt0+in_ok-forwarding w ↦ record {
        entries = entries;
        forwarding = given;
        route = w.in_ok-forwarding.ensures.0;
        reads = read;
        forwards = inr (omega (arith, w.if-counts-gt0.false), w.in_ok-forwarding.ensures.1);
        answers = λ b v. (λ i. stored_route r (w.forwarding-is i).items b v) ∙ w.in_ok-forwarding.ensures.2 b v;
      }
    ]
