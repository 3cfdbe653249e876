use Rattle.std.proofs.Common.{◌≡◌, ℕ, ◌≤◌, List, ◌++◌, length, take, drop, refl, ap, ◌∙◌, arith, rules}
use Rattle.std.proofs.lemmas.List.{length-append, length-drop, take_at, take-append-drop, drop_at}
use Rattle.reading.proofs.KeptRules.{result_keeps, result_few}
use Rattle.reading.proofs.read.read.Goals as goal
use Rattle.reading.proofs.read.read.Goals.{In_ok-nodes, In_ok-cables}

-- a table whose first n places are as they were is as it was
put_back : {X : Type 0} (n : ℕ) (part table : List X) → part ≡ take n table → part ++ drop n table ≡ table
put_back n part table same = ap (λ l. l ++ drop n table) same ∙ take-append-drop n table

-- what stands for the first n places of a table has n places
long : {X : Type 0} (n : ℕ) (part table : List X) → n ≤ length table → length (part ++ drop n table) ≡ length table → length part ≡ n
long n part table enough same = omega (arith, length-append part (drop n table), length-drop n table)

nodes_same : (c : In_ok-nodes) → c.in_ok-nodes.nodes.now ++ drop 128 c.args.nodes.now ≡ c.args.nodes.now
nodes_same c = put_back 128 _ c.args.nodes.now (rw c.in_ok-nodes.ensures.ok_part at c.first_chunk_mut.ensures.cases).same

cables_same : (c : In_ok-cables) → c.in_ok-cables.cables.now ++ drop 256 c.args.cables.now ≡ c.args.cables.now
cables_same c = put_back 256 _ c.args.cables.now (rw c.in_ok-cables.ensures.ok_part at c.first_chunk_mut-2.ensures.cases).same

pub returns-in_err-cables-clause-short : goal.returns-in_err-cables-clause-short
returns-in_err-cables-clause-short c = λ short. (search rules, nodes_same (goal.at.returns-in_err-cables-clause-short c).In_ok-nodes, refl, refl)

pub returns-in_err-cables-clause-beyond : goal.returns-in_err-cables-clause-beyond
returns-in_err-cables-clause-beyond c = (ap (drop 128) (nodes_same (goal.at.returns-in_err-cables-clause-beyond c).In_ok-nodes), refl, refl)

pub returns-in_err-forwarding-clause-short : goal.returns-in_err-forwarding-clause-short
returns-in_err-forwarding-clause-short c =
    let at = goal.at.returns-in_err-forwarding-clause-short c in
    λ short. (search rules, nodes_same at.In_ok-nodes, cables_same at.In_ok-cables, refl)

pub returns-in_err-forwarding-clause-beyond : goal.returns-in_err-forwarding-clause-beyond
returns-in_err-forwarding-clause-beyond c =
    let at = goal.at.returns-in_err-forwarding-clause-beyond c in
    (ap (drop 128) (nodes_same at.In_ok-nodes), ap (drop 256) (cables_same at.In_ok-cables), refl)

pub returns : goal.returns
returns c =
    let nodes = c.fill_or_wipe.new.nodes in
    let cables = c.fill_or_wipe.new.cables in
    let forwarding = c.fill_or_wipe.new.forwarding in
    let a : 128 ≤ length c.args.nodes.now = (rw c.in_ok-nodes.ensures.ok_part at c.first_chunk_mut.ensures.cases).enough in
    let b : 256 ≤ length c.args.cables.now = (rw c.in_ok-cables.ensures.ok_part at c.first_chunk_mut-2.ensures.cases).enough in
    let d : 16384 ≤ length c.args.forwarding.now = (rw c.in_ok-forwarding.ensures.ok_part at c.first_chunk_mut-3.ensures.cases).enough in
    let n : length nodes ≡ 128 = long 128 nodes c.args.nodes.now a (search rules) in
    let m : length cables ≡ 256 = long 256 cables c.args.cables.now b (search rules) in
    let w : length forwarding ≡ 16384 = long 16384 forwarding c.args.forwarding.now d (search rules) in
    record {
      short = λ short. absurd (short (a, b, d));
      answers = λ sized.
          rw (take_at nodes _ 128 n, take_at cables _ 256 m, take_at forwarding _ 16384 w) c.fill_or_wipe.ensures.answers;
      blank = λ sized bad.
          rw (take_at nodes _ 128 n, take_at cables _ 256 m, take_at forwarding _ 16384 w) (c.fill_or_wipe.ensures.blank bad);
      beyond = (drop_at nodes _ 128 n, drop_at cables _ 256 m, drop_at forwarding _ 16384 w);
      rules = result_keeps c.args.limits c.args.file.now c.fill_or_wipe.result nodes _ cables _ forwarding c.fill_or_wipe.ensures.answers;
      few = result_few c.args.limits c.args.file.now c.fill_or_wipe.result nodes cables forwarding n m c.fill_or_wipe.ensures.answers;
    }
