-- The records of a file, eight bytes each, one after the other. Assumes nothing.
use Rattle.std.proofs.Common.{◌≡◌, ℕ, ◌+◌, ◌-◌, ◌*◌, ◌/◌, ◌<◌, ◌≤◌, List, ◌++◌, length, take, drop, sym, ap, ◌∙◌, arith}
use Rattle.std.specs.List.{between}
use Rattle.std.proofs.lemmas.List.{take_at, drop_at, drop-drop, length-drop, length-append}

-- where eight bytes and then the rest stand from record i on, they are record i, and record i + 1 begins the rest
pub record_here :
    (f b rest : List ℕ) (i : ℕ) → drop (8 * i) f ≡ b ++ rest → length b ≡ 8 →
    (between (8 * i) (8 * i + 8) f ≡ b) × (rest ≡ drop (8 * (i + 1)) f) × (8 * (i + 1) ≤ length f)
record_here f b rest i here eight =
    let eight_on : 8 * i + 8 - 8 * i ≡ 8 = omega arith in
    let next : 8 * i + 8 ≡ 8 * (i + 1) = omega arith in (
      ap (λ m. take m (drop (8 * i) f)) eight_on ∙ ap (take 8) here ∙ take_at b rest 8 eight,
      sym (drop_at b rest 8 eight) ∙ sym (ap (drop 8) here) ∙ drop-drop 8 (8 * i) f ∙ ap (λ m. drop m f) next,
      omega (arith, length-drop (8 * i) f, ap length here, length-append b rest, eight),
    )

-- where less than a record is left from record i on, the file has i whole records
pub records_end : (f left : List ℕ) (i : ℕ) → left ≡ drop (8 * i) f → length left < 8 → 8 * i ≤ length f → i ≡ length f / 8
records_end f left i here short within = omega (arith, length-drop (8 * i) f, ap length here)
