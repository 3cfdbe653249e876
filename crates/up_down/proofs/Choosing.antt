-- The shortest beginning among the channels out of a node, taken one by one. Assumes nothing.
use Rattle.std.proofs.Common.{◌≡◌, ℕ, ◌+◌, ◌<◌, ◌≤◌, Bool, true, false, ltb, List, length, get_or, Some, None, Option, sym, ap, ◌∙◌, subst, ⊎_elim, arith}
use Rattle.std.proofs.lemmas.Bool.{cases_Bool, cases_eq, ltb-true, ltb-false, cond-true, cond-false}
use Rattle.std.proofs.lemmas.List.{get_or_default}
use Rattle.rack.specs.declared.numbers.Channel.{Channel}
use Rattle.rack.specs.declared.rack.Rack.{Rack}
use Rattle.rack.specs.Index.{Lists}
use Rattle.rack.specs.Racks.{Leaving}
use Rattle.up_down.specs.declared.begin.Begin.{Begin}
use Rattle.up_down.specs.Ways.{Begins}
use Rattle.up_down.specs.Tables.{most, BeginsBy, BeginIs, shorter}

module _ (r : Rack) (tier : ℕ → ℕ) (v : ℕ) (down : Bool) (w : ℕ) (list : List Channel) where
  -- of the first i channels of the list, this one begins a shortest way, and none before it does
  pub record Chosen (i : ℕ) (b : Begin) : Type 0 where
    pub begins : Begins r tier v down w b.left b.first.0
    pub shortest : (j n : ℕ) (e : Channel) → j < i → Begins r tier v down w n (get_or list j e).0 → b.left ≤ n
    pub lowest : (j : ℕ) (e : Channel) → j < i → Begins r tier v down w b.left (get_or list j e).0 → b.first.0 ≤ (get_or list j e).0
    pub ahead : (j : ℕ) (e : Channel) → i ≤ j → j < length list → b.first.0 < (get_or list j e).0
    pub few : b.left < most r tier down w

  -- the best of the first i channels; or none of them begins a way
  abbrev pub Best : ℕ → Option Begin → Type 0
  Best i None = (j n : ℕ) (e : Channel) → j < i → Begins r tier v down w n (get_or list j e).0 → ⊥
  Best i (Some b) = Chosen i b

  module _ (all : Lists (Leaving r w) list) where
    pub best_start : Best 0 None
    best_start j n e low = absurd (omega arith)

    -- the channel at place i
    module _ (i : ℕ) (inside : i < length list) where
      abbrev d : Channel
      d = get_or list i (record { 0 = 0 })

      -- what is so of the channels before it and of itself is so of those up to it
      up_to : (P : ℕ → Type 0) → ((j : ℕ) (e : Channel) → j < i → P (get_or list j e).0) → P d.0 → (j : ℕ) (e : Channel) → j < i + 1 → P (get_or list j e).0
      up_to P below here j e low =
          ⊎_elim
          (λ (z : j ≡ i). subst (λ (y : Channel). P y.0) (sym (ap (λ n. get_or list n e) z ∙ get_or_default list i e (record { 0 = 0 }) inside)) here)
          (λ (ne : j ≡ i → ⊥). below j e (omega arith))
          (cases_eq j i)

      behind : (j : ℕ) (e : Channel) → i + 1 ≤ j → j < length list → d.0 < (get_or list j e).0
      behind j e after low =
          let one = get_or_default list i (record { 0 = 0 }) e inside in
          let less = all.ascending i j e (omega arith) low in
          subst (λ (y : Channel). y.0 < (get_or list j e).0) (sym one) less

      -- it begins no way
      keep_none : Best i None → BeginsBy r tier v down w d.0 None → Best (i + 1) None
      keep_none old none j n e low = up_to (λ x. Begins r tier v down w n x → ⊥) (λ k f l. old k n f l) (none n) j e low

      keep_some : (b : Begin) → Best i (Some b) → ((n : ℕ) → Begins r tier v down w n d.0 → b.left ≤ n) → Best (i + 1) (Some b)
      keep_some b old longer = record {
        begins = old.begins;
        shortest = λ j n e low. up_to (λ x. Begins r tier v down w n x → b.left ≤ n) (λ k f l. old.shortest k n f l) (longer n) j e low;
        lowest = λ j e low. up_to (λ x. Begins r tier v down w b.left x → b.first.0 ≤ x) old.lowest (λ _. let before = old.ahead i (record { 0 = 0 }) (omega arith) inside in omega (arith, before)) j e low;
        ahead = λ j e after low. old.ahead j e (omega arith) low;
        few = old.few;
      }

      -- it begins a way that is shorter than all before
      take_some : (b : Begin) → ((j n : ℕ) (e : Channel) → j < i → Begins r tier v down w n (get_or list j e).0 → b.left < n) → BeginsBy r tier v down w d.0 (Some b) → Best (i + 1) (Some b)
      take_some b longer by = record {
        begins = subst (Begins r tier v down w b.left) (sym by.0) by.1;
        shortest = λ j n e low. up_to (λ x. Begins r tier v down w n x → b.left ≤ n) (λ k f l way. let more = longer k n f l way in omega (arith, more)) (by.2 n) j e low;
        lowest = λ j e low. up_to (λ x. Begins r tier v down w b.left x → b.first.0 ≤ x) (λ k f l way. let more = longer k b.left f l way in omega (arith, more)) (λ _. omega (arith, by.0)) j e low;
        ahead = λ j e after low. let less = behind j e after low in omega (arith, less, by.0);
        few = by.3;
      }

      pub best_more : (o p : Option Begin) → Best i o → BeginsBy r tier v down w d.0 p → Best (i + 1) (shorter o p)
      best_more None None old by = keep_none old by
      best_more None (Some c) old by = take_some c (λ j n e low way. absurd (old j n e low way)) by
      best_more (Some b) None old by = keep_some b old (λ n way. absurd (by n way))
      best_more (Some b) (Some c) old by =
          ⊎_elim
          (λ (less : ltb c.left b.left ≡ true).
          subst (Best (i + 1)) (sym (cond-true (ltb c.left b.left) (Some c) (Some b) less))
          (take_some c (λ j n e low way. let more = old.shortest j n e low way in let under = ltb-true c.left b.left less in omega (arith, more, under)) by))
          (λ (not_less : ltb c.left b.left ≡ false).
          subst (Best (i + 1)) (sym (cond-false (ltb c.left b.left) (Some c) (Some b) not_less))
          (keep_some b old (λ n way. let more = by.2 n way in let over = ltb-false c.left b.left not_less in omega (arith, more, over))))
          (cases_Bool (ltb c.left b.left))

    -- no channel is left
    pub best_all : (i : ℕ) → length list ≤ i → (o : Option Begin) → Best i o → BeginIs r tier v down w o
    best_all i over None none = λ n e way.
        let x : Channel = record { 0 = e } in
        let at = all.every x way.0 in
        none at.0 n x (omega (arith, at.1)) (subst (λ (y : Channel). Begins r tier v down w n y.0) (sym at.2) way)
    best_all i over (Some b) chosen = (
      record {
        begins = chosen.begins;
        shortest = λ n e way.
            let x : Channel = record { 0 = e } in
            let at = all.every x way.0 in
            chosen.shortest at.0 n x (omega (arith, at.1)) (subst (λ (y : Channel). Begins r tier v down w n y.0) (sym at.2) way);
        lowest = λ e way.
            let x : Channel = record { 0 = e } in
            let at = all.every x way.0 in
            subst (λ (y : Channel). b.first.0 ≤ y.0) at.2 (chosen.lowest at.0 x (omega (arith, at.1)) (subst (λ (y : Channel). Begins r tier v down w b.left y.0) (sym at.2) way));
      },
      chosen.few,
    )
