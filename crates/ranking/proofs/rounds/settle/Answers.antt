use Rattle.std.proofs.Common.{eqb-true, arith, rules}
use Rattle.ranking.proofs.Tables.{same_past}
use Rattle.ranking.proofs.Settling.{going_start, going_on, ranked, ranked_none, stuck}
use Rattle.ranking.proofs.rounds.settle.Goals as goal

pub loop-r-init : goal.loop-r-init
loop-r-init g c = going_start _ _ (g.met.G.Graph.within c.args.graph.now) c.args.ranks.now (λ y l. c.requires.zeros y (omega arith))

pub loop-r-preserved : goal.loop-r-preserved
loop-r-preserved g c =
    let left = c.if-not-contains.ensures.cases in
    let done = c.if-not-contains-2.ensures.cases in
    going_on _ _ (g.met.G.Graph.within c.args.graph.now) c.loop-r.r-counter c.loop-r.ranks c.round.new.ranks left.0 done.0 c.loop-r.invariant c.round.ensures (omega (arith, left.1)) (eqb-true _ _ (left.2 0)) (omega (arith, done.1)) (eqb-true _ _ (done.2 0))

pub returns-then-not-contains : goal.returns-then-not-contains
returns-then-not-contains g c =
    record {
      ranked = ranked _ _ (g.met.G.Graph.within c.args.graph.now) c.loop-r.r-counter c.args.ranks.now c.loop-r.ranks c.round.new.ranks (omega arith) c.loop-r.invariant c.round.ensures (λ y l e. search rules) (same_past _ _ _ c.requires.fits (omega arith));
      stuck = tt;
    }

pub returns-then-not-contains-2 : goal.returns-then-not-contains-2
returns-then-not-contains-2 g c =
    let left = c.if-not-contains.ensures.cases in
    record {
      ranked = tt;
      stuck = stuck _ _ (g.met.G.Graph.within c.args.graph.now) c.loop-r.r-counter c.loop-r.ranks c.round.new.ranks left.0 (omega arith) c.round.ensures (omega (arith, left.1)) (eqb-true _ _ (left.2 0)) (λ y l e. search rules);
    }

pub returns : goal.returns
returns g c =
    record {
      ranked = ranked_none _ _ (g.met.G.Graph.within c.args.graph.now) c.loop-r.r-counter c.args.ranks.now c.loop-r.ranks (omega arith) c.loop-r.invariant (same_past _ _ _ c.requires.fits (omega arith));
      stuck = tt;
    }
