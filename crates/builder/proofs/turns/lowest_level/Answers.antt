use Rattle.std.proofs.Common.{rules, tests, ◌≡◌, ℕ, ◌<◌, min, ltb, cond, List, length, map, get_or, Some, None, Option, MatchOption, refl, sym, ap, ◌∙◌, subst, arith, le-ltb, lt-ltb}
use Rattle.std.specs.List.{range_with_len, AllWithin, HoldsAt}
use Rattle.std.proofs.lemmas.Iterator.{first_from_find, YieldsList-from_range}
use Rattle.std.proofs.lemmas.Iterator.Consumers.{YieldsList-from_filter_map}
use Rattle.std.proofs.lemmas.List.FromFn.{get_or-map-range_with_len}
use Rattle.rack.specs.declared.rack.Rack.{Rack}
use Rattle.rack.specs.declared.numbers.UpTo.{UpTo}
use Rattle.rack.proofs.Same.{same_number}
use Rattle.builder.specs.Method.{channels_of, Fits, Lowest, NoLevel}
use Rattle.builder.proofs.turns.lowest_level.Goals as goal

-- the level of a number, and of no number above 15
abbrev level : ℕ → UpTo 15
level n = record { number = min n 15; within = omega arith }

abbrev made : ℕ → Option (UpTo 15)
made n = cond (ltb n 16) (Some (level n)) None

is_made : (n : ℕ) (r : Option (UpTo 15)) → MatchOption r (15 < n) (λ l. l.number ≡ n) → r ≡ made n
is_made n None h = sym (ap (λ b. cond b (Some (level n)) None) (le-ltb n 16 (omega (arith, h))))
is_made n (Some l) h =
    let low = l.within in
    ap Some (same_number 15 l (level n) (omega (arith, h))) ∙ sym (ap (λ b. cond b (Some (level n)) None) (lt-ltb n 16 (omega (arith, h))))

-- all of them, in their order
abbrev levels : List (UpTo 15)
levels = map level (range_with_len 0 16)

number_at : (i : ℕ) → i < 16 → (get_or levels i (level 0)).number ≡ i
number_at i l = ap (λ (x : UpTo 15). x.number) (get_or-map-range_with_len level 0 16 i i (level 0) l (omega arith)) ∙ omega arith

-- what a search among them answers
lowest_of :
    (r : Rack) (lanes path : List ℕ) (found : Option (UpTo 15)) →
    MatchOption found (AllWithin (λ (l : UpTo 15). Fits r lanes path l.number → ⊥) levels 0 (length levels))
    (λ x. Fits r lanes path x.number × (i : ℕ) × (i < length levels) × HoldsAt (λ y. y ≡ x) levels i × AllWithin (λ (l : UpTo 15). Fits r lanes path l.number → ⊥) levels 0 i) →
    MatchOption found (NoLevel r lanes path) (λ l. Lowest r lanes path l.number)
lowest_of r lanes path None h = λ s low f. h s (level 0) (omega arith) low (subst (Fits r lanes path) (sym (number_at s low)) f)
lowest_of r lanes path (Some x) h =
    let is : x.number ≡ h.1 = sym (ap (λ (l : UpTo 15). l.number) (h.3 (level 0))) ∙ number_at h.1 h.2 in
    record {
      level = omega (arith, h.2);
      fits = h.0;
      least = λ t l f. h.4 t (level 0) (omega arith) (omega arith) (subst (Fits r lanes path) (sym (number_at t (omega (arith, h.2)))) f);
    }

pub returns : goal.returns
returns c =
    let r = c.args.rack.now in
    let lanes = c.args.lanes.now in
    let path = channels_of c.args.path.now in
    lowest_of r lanes path c.find.result
    (first_from_find _ _ _ (λ (l : UpTo 15). Fits r lanes path l.number) (λ (l : UpTo 15). Fits r lanes path l.number → ⊥) c.find.ensures.ran
    (YieldsList-from_filter_map {s = c.filter_map.result} _ made (YieldsList-from_range 0 16 16 c.filter_map.ensures.source refl) c.filter_map.ensures.closure (λ x r q k. (refl, is_made x r (search (rules, k)))))
    (λ x q k. search (rules, tests)) (λ x q k. search (rules, tests)))
