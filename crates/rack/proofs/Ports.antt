-- The channels at the places of their ports, one channel at a time. Assumes nothing.
use Rattle.std.proofs.Common.{◌≡◌, ℕ, ◌+◌, ◌*◌, ◌<◌, ◌≤◌, List, length, get_or, set, replicate, Some, None, Option, sym, refl, ap, ◌∙◌, ⊎_elim, arith}
use Rattle.std.proofs.lemmas.List.{get_or-set_same, get_or-set_other}
use Rattle.std.proofs.lemmas.Bool.{cases_eq}
use Rattle.std.proofs.lemmas.Option.{same_Some, none-some}
use Rattle.rack.specs.declared.cable.Cable.{Cable}
use Rattle.rack.specs.declared.cable.End.{End}
use Rattle.rack.specs.declared.numbers.Channel.{Channel}
use Rattle.rack.specs.Network.{channels, tail_end, KeepsRules}
use Rattle.rack.specs.Index.{port_place}
use Rattle.rack.proofs.Facts.{joined, port_node, port_within, same_end}
use Rattle.rack.proofs.ShownTables.{all_one}

-- two ports at one place are the same
same_place : (d e : End) → d.port.0 ≤ 36 → e.port.0 ≤ 36 → port_place d ≡ port_place e → d ≡ e
same_place d e low low' is = same_end d e (omega arith) (omega arith)

-- the channels below n stand at the places of their ports, and nothing else stands anywhere
pub record PortedBelow (cs : List Cable) (ports : List (Option Channel)) (n : ℕ) : Type 0 where
  pub at : (c : ℕ) → c < n → get_or ports (port_place (tail_end cs c)) None ≡ Some (record { 0 = c })
  pub only : (k : ℕ) (c : Channel) → get_or ports k None ≡ Some c → (c.0 < n) × (port_place (tail_end cs c.0) ≡ k)

pub ported_none : (cs : List Cable) (ports : List (Option Channel)) (n : ℕ) → ports ≡ replicate n None → PortedBelow cs ports 0
ported_none cs ports n is = record {
  at = λ c h. absurd (omega arith);
  only = λ k c some. absurd (none-some c (sym (all_one ports n None None is refl k) ∙ some));
}

module _ (nodes : List ℕ) (cs : List Cable) (rules : KeepsRules nodes cs) where
  -- a channel leaves by a port of a node
  tail_low : (c : ℕ) → c < channels cs → (tail_end cs c).port.0 ≤ 36
  tail_low c h = (port_within nodes (tail_end cs c) (joined nodes cs rules.2 c h).0).1

  pub place_low : (c : ℕ) → c < channels cs → port_place (tail_end cs c) < 37 * length nodes
  place_low c h = omega (arith, tail_low c h, port_node nodes (tail_end cs c) (joined nodes cs rules.2 c h).0)

  place_apart : (b c : ℕ) → b < channels cs → c < channels cs → port_place (tail_end cs b) ≡ port_place (tail_end cs c) → b ≡ c
  place_apart b c h h' is = rules.3 b c (h, h', same_place _ _ (tail_low b h) (tail_low c h') is)

  pub ported_more : (ports : List (Option Channel)) (n i : ℕ) → i < length ports → n < channels cs → i ≡ port_place (tail_end cs n) → PortedBelow cs ports n → PortedBelow cs (set ports i (Some (record { 0 = n }))) (n + 1)
  ported_more ports n i low h is old = record {
    at = λ c below.
        ⊎_elim
        (λ (e : port_place (tail_end cs c) ≡ i).
        let same : c ≡ n = place_apart c n (omega arith) h (e ∙ is) in
        ap (λ k. get_or (set ports i (Some (record { 0 = n }))) k None) e ∙ get_or-set_same ports i _ None low ∙ ap (λ x. Some (record { 0 = x })) (sym same))
        (λ (other : port_place (tail_end cs c) ≡ i → ⊥).
        let differ : c ≡ n → ⊥ = λ e. other (ap (λ x. port_place (tail_end cs x)) e ∙ sym is) in
        get_or-set_other ports i _ _ None other ∙ old.at c (omega arith))
        (cases_eq (port_place (tail_end cs c)) i);
    only = λ k c some.
        ⊎_elim
        (λ (e : k ≡ i).
        let same = same_Some _ _ (sym (ap (λ x. get_or (set ports i (Some (record { 0 = n }))) x None) e ∙ get_or-set_same ports i _ None low) ∙ some) in
        let number : n ≡ c.0 = ap (λ (x : Channel). x.0) same in
        (omega arith, ap (λ x. port_place (tail_end cs x)) (sym number) ∙ sym is ∙ sym e))
        (λ (other : k ≡ i → ⊥).
        let before = old.only k c (sym (get_or-set_other ports i k _ None other) ∙ some) in
        (omega (arith, before.0), before.1))
        (cases_eq k i);
  }
