use Rattle.std.proofs.Common.{ℕ, Ok, Err, Option, Result, OnOk, arith}
use Rattle.std.proofs.lemmas.Grind.{common_steps}
use Rattle.rack.specs.declared.rack.Rack.{Rack}
use Rattle.builder.specs.declared.fault.BuildFault.{BuildFault}
use Rattle.builder.specs.Method.{Tables, tables}
use Rattle.builder.specs.Laws.{TurnsNumbered, EndsKeep0}
use Rattle.builder.specs.Outcomes.{LongEnough, needed, Outcome}
use Rattle.builder.proofs.Rising.{lanes_rise, rises_beyond}
use Rattle.builder.proofs.Ends.{first_and_last_0, ends_beyond}
use Rattle.builder.proofs.build.build.Goals as goal

-- what the method gives keeps the laws of its tables
planned : (r : Rack) (route : ℕ → ℕ → Option ℕ) (count : ℕ) (was now : Tables) (result : Result (Unit {0}) BuildFault) → LongEnough r now → Outcome r route count was now result → OnOk result (TurnsNumbered r route count now × EndsKeep0 r now.lanes)
planned r route count was now (Ok x) long told =
    (rises_beyond r route count now long (lanes_rise r route count (needed r now) told.0 told.2), ends_beyond r now.lanes long.0 (first_and_last_0 r route count (needed r now) told.2))
planned r route count was now (Err f) long told = tt

pub returns-clause-plan : goal.returns-clause-plan
returns-clause-plan g c =
    let r = c.args.rack.now in
    let now = tables c.if-is_err.lanes c.if-is_err.levels in
    let told : Outcome r (g.S.ForwardingSource.route c.args.source.now) c.args.lane_count (tables c.args.lanes.now c.args.levels.now) now c.all-built.result = grind (arith, common_steps) in
    planned r _ _ _ now c.all-built.result (omega (arith, c.lane_bytes-rows.ensures), omega (arith, c.node_pairs-pairs.ensures)) told
