-- An accepted file gives every place of the tables one value. Assumes nothing.
use Rattle.std.proofs.Common.{◌≡◌, ℕ, ◌+◌, ◌/◌, ◌%◌, ◌<◌, ◌⊎◌, List, length, get_or, sym, ap, ◌∙◌, subst, inl, inr, ⊎_elim, arith}
use native.Mathlib.Nat.{div-add-mod}
use Rattle.std.proofs.lemmas.Bool.{cases_eq, cases_order}
use Rattle.reading.specs.declared.add.Counts.{Counts}
use Rattle.rack.specs.declared.cable.Cable.{Cable}
use Rattle.rack.specs.declared.cable.End.{End}
use Rattle.rack.specs.Network.{port_of, Apart, Leaves}
use Rattle.reading.specs.Rules.{Described, described, Shown, Forwarded, nothing}
use Rattle.rack_laws.specs.Files.{OneValue}
use Rattle.reading.proofs.KeptRules.{Sound, sound}

-- where no two cables share a port, one channel leaves by a port
pub leaves_once : (cables : List Cable) → Apart cables → (e : End) (c d : ℕ) → Leaves cables e c → Leaves cables e d → c ≡ d
leaves_once cables apart e c d h k = apart c d (h.0, k.0, h.1 ∙ sym k.1)

forwarded_once : (net : Described) → Sound net → (w v x y : ℕ) → Forwarded net w v x → Forwarded net w v y → x ≡ y
forwarded_once net good w v x y (inl h) (inl k) = h.0 ∙ sym k.0
forwarded_once net good w v x y (inl h) (inr k) = absurd (h.1 k.0 k.2 k.3)
forwarded_once net good w v x y (inr h) (inl k) = absurd (k.1 h.0 h.2 h.3)
forwarded_once net good w v x y (inr h) (inr k) =
    ⊎_elim
    (λ (e : h.0 ≡ k.0).
    h.5
    ∙ ap (λ n. n + 1) (leaves_once net.cables good.apart (port_of w (get_or net.entries h.0 nothing).port.0) h.1 k.1 h.4 (subst (λ n. Leaves net.cables (port_of w (get_or net.entries n nothing).port.0) k.1) (sym e) k.4))
    ∙ sym k.5)
    (λ (off : (h.0 < k.0) ⊎ (k.0 < h.0)).
    absurd (⊎_elim (λ (q : h.0 < k.0). good.singles h.0 k.0 q k.2 w v h.3 k.3) (λ (q : k.0 < h.0). good.singles k.0 h.0 q h.2 w v k.3 h.3) off))
    (cases_order h.0 k.0)

-- two forwarding tables that show one network agree at every place
place_once :
    (net : Described) (a b : Counts) (nodes nodes' : List ℕ) (cables cables' : List Cable) (forwarding forwarding' : List ℕ) → Sound net →
    Shown net a nodes cables forwarding → Shown net b nodes' cables' forwarding' → (k : ℕ) → get_or forwarding k 0 ≡ get_or forwarding' k 0
place_once net a b nodes nodes' cables cables' forwarding forwarding' good s t k =
    let n = length net.nodes in
    ⊎_elim
    (λ (empty : n ≡ 0). s.blank (good.peopled empty) k ∙ sym (t.blank (good.peopled empty) k))
    (λ (some : n ≡ 0 → ⊥).
    let low : k % n < n = omega arith in
    let at = div-add-mod k n in
    let here = forwarded_once net good (k / n) (k % n) _ _ (s.hop (k / n) (k % n) low) (t.hop (k / n) (k % n) low) in
    ap (λ i. get_or forwarding i 0) (sym at) ∙ here ∙ ap (λ i. get_or forwarding' i 0) at)
    (cases_eq n 0)

pub one_value : OneValue
one_value limits f a b nodes nodes' cables cables' forwarding forwarding' h k = (
  λ i. h.3.node i ∙ sym (k.3.node i),
  λ i. h.3.cable i ∙ sym (k.3.cable i),
  place_once (described f (length f / 8)) a b nodes nodes' cables cables' forwarding forwarding' (sound limits f (length f / 8) h.1) h.3 k.3,
)
