use Rattle.std.proofs.Common.{arith, rules}
use Rattle.ranking.proofs.Walking.{walking_start, walking_on, fewer_left, walk_closed, walk_feeds}
use Rattle.ranking.proofs.rings.walk.Goals as goal

pub steps-init : goal.steps-init
steps-init g c = walking_start _ _ c.args.stall.top c.in-Some.first c.args.ranks.now (search rules) (search rules) c.requires.stuck

pub unreachable-requires-in_default-before : goal.unreachable-requires-in_default-before
unreachable-requires-in_default-before g c =
    let q = walk_feeds _ _ c.args.stall.top c.steps.mark c.steps.y c.steps.ranks c.steps.invariant (omega arith) in
    c.in_default-before.ensures q.0 q.2 q.3

pub returns-then-seen-top : goal.returns-then-seen-top
returns-then-seen-top g c =
    let x = c.in-Some-before.x in
    let a = c.in-Some-before.ensures in
    walk_closed _ _ c.args.stall.top c.steps.mark c.steps.y c.steps.ranks c.steps.invariant (omega arith) x (g.met.G.Graph.within c.args.graph.now x c.steps.y a.1).0 (omega arith) a.1

pub steps-smaller : goal.steps-smaller
steps-smaller g c = fewer_left _ _ c.args.stall.top c.steps.mark c.steps.y c.steps.ranks c.steps.invariant (omega arith)

pub steps-preserved : goal.steps-preserved
steps-preserved g c =
    let x = c.in-Some-before.x in
    let a = c.in-Some-before.ensures in
    walking_on _ _ c.args.stall.top c.steps.mark c.steps.y c.steps.ranks c.steps.invariant (omega arith) x (g.met.G.Graph.within c.args.graph.now x c.steps.y a.1).0 (omega arith) a.1

pub overflow_add-mark-in-steps : goal.overflow_add-mark-in-steps
overflow_add-mark-in-steps g c =
    let left = fewer_left _ _ c.args.stall.top c.steps.mark c.steps.y c.steps.ranks c.steps.invariant (omega arith) in
    omega (arith, g.met.G.Graph.small c.args.graph.now)
