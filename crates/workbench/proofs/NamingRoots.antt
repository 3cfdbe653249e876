-- Words that name a depth and then no root. Assumes nothing.
use Rattle.std.proofs.Common.{◌≡◌, ℕ, ◌-◌, ◌≤◌, List, ◌∷◌, length, take, drop, get_or, Some, None, Option, ap, ◌∙◌, sym, subst, inl, inr, arith, Bor, codes}
use Rattle.std.proofs.lemmas.List.{take_all}
use Rattle.workbench.specs.declared.arguments.Task.{Task}
use Rattle.workbench.specs.declared.arguments.Task.TheVariants.{Build, Check, Dry}
use Rattle.workbench.specs.Commands.{NamesRoot, Names}

module _ (ws : List (Bor (List ℕ))) (d : Bor (List ℕ)) (dry : (get_or ws 0 d).now ≡ codes "dry") (depth : (get_or ws 3 d).now ≡ codes "--depth") where
  -- `--depth` names no root
  no_root : (root : Option ℕ) (verb rack plan : Bor (List ℕ)) (rest : List (Bor (List ℕ))) → 5 ≤ length ws → ws ≡ verb ∷ rack ∷ plan ∷ rest → NamesRoot rest root → ⊥
  no_root None verb rack plan rest long e h =
      let three : length ws ≡ 3 = ap length e ∙ ap (λ (l : List (Bor (List ℕ))). length (verb ∷ rack ∷ plan ∷ l)) h in
      omega (arith, long, three)
  no_root (Some n) verb rack plan rest long e h =
      let fourth : get_or ws 3 d ≡ h.0 = (λ i. get_or (e i) 3 d) ∙ (λ i. get_or (h.2 i) 0 d) in
      let option : codes "--depth" ≡ codes "--root" = sym depth ∙ (λ i. (fourth i).now) ∙ h.3 in
      absurd cc

  -- where the words behind the depth name no root, the words name no task
  pub no_task : 5 ≤ length ws → ((root : Option ℕ) → NamesRoot (take (length ws - 5) (drop 5 ws)) root → ⊥) → (t : Task) → Names ws t → ⊥
  no_task long none (Build t) h =
      let verb : codes "dry" ≡ codes "build" = sym dry ∙ (λ i. (get_or (h.3 i) 0 d).now) ∙ h.4 in
      absurd cc
  no_task long none (Check rack plan root) h =
      let verb : codes "dry" ≡ codes "check" = sym dry ∙ (λ i. (get_or (h.2 i) 0 d).now) ∙ h.3 in
      absurd cc
  no_task long none (Dry rack plan n root) (inl h) = no_root root h.0 rack plan h.1 long h.2 h.5
  no_task long none (Dry rack plan n root) (inr h) =
      let rest : take (length ws - 5) (drop 5 ws) ≡ h.3 = (λ i. take (length (h.4 i) - 5) (drop 5 (h.4 i))) ∙ take_all _ h.3 (omega arith) in
      none root (subst (λ l. NamesRoot l root) (sym rest) h.8)
