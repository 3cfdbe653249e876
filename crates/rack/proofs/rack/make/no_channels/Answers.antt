use Rattle.std.proofs.Common.{◌≡◌, ℕ, ◌<◌, ◌≤◌, List, Vec, Global, [], map, get_or, replicate, rules, tests, sym, ap, ◌∙◌, ⊎_elim, arith}
use Rattle.std.proofs.lemmas.Bool.{cases_lt}
use Rattle.std.proofs.lemmas.Iterator.{YieldsList-from_range, YieldsList-from_map_by}
use Rattle.std.proofs.lemmas.Iterator.Consumers.{map_from_collect}
use Rattle.std.proofs.lemmas.List.{get_or-replicate, get_or_past, length-replicate}
use Rattle.std.proofs.lemmas.List.FromFn.{length-range_with_len}
use Rattle.std.proofs.lemmas.Result.{IfOk-weaker}
use Rattle.std.proofs.lemmas.Simd.{splat_is_map}
use Rattle.rack.specs.declared.numbers.Channel.{Channel}
use Rattle.rack.specs.Index.{list_of}
use Rattle.rack.proofs.rack.make.no_channels.Goals as goal

-- lists that have no items
all_empty : (n : ℕ) (lists : List (Vec Channel Global)) → map (λ l. l.items) lists ≡ replicate n [] → (v : ℕ) → list_of lists v ≡ []
all_empty n lists is v =
    ap (λ x. get_or x v []) is
    ∙ ⊎_elim (λ (low : v < n). get_or-replicate n v [] [] low) (λ (high : n ≤ v). get_or_past (replicate n []) v [] (omega (arith, length-replicate {A = List Channel} n []))) (cases_lt v n)

pub returns-clause-empty : goal.returns-clause-empty
returns-clause-empty c =
    let n = c.args.nodes in
    let items = map_from_collect {v = λ (l : Vec Channel Global). l.items} c.collect.result c.collect.ensures.ran
    (YieldsList-from_map_by _ (λ (l : Vec Channel Global). l.items) (λ _. []) (YieldsList-from_range 0 n n (cc) (omega arith)) c.map.ensures.closure (λ x r q m. search (rules, tests))) in
    IfOk-weaker c.collect.result _ _ (λ lists is. all_empty n lists.items (is ∙ sym (splat_is_map _ n [] (length-range_with_len 0 n)))) items
