use Rattle.std.proofs.Common.{◌≡◌, ℕ, List, ◌++◌, length, take, drop, sym, ap, ◌∙◌, arith}
use Rattle.std.proofs.Math.Seq.{take-append_seam, drop-append_seam}
use Rattle.std.specs.Prelude.{get_or}
use Rattle.workbench.proofs.laws.read_back.Goals as goal

-- where two lists of one length stand before others, the two are the same, and so are the others
heads : (xs ys cs bs : List ℕ) → length xs ≡ length cs → xs ++ ys ≡ cs ++ bs → xs ≡ cs
heads xs ys cs bs n e = sym (take-append_seam xs ys) ∙ (λ i. take (n i) (e i)) ∙ take-append_seam cs bs

tails : (xs ys cs bs : List ℕ) → length xs ≡ length cs → xs ++ ys ≡ cs ++ bs → ys ≡ bs
tails xs ys cs bs n e = sym (drop-append_seam xs ys) ∙ (λ i. drop (n i) (e i)) ∙ drop-append_seam cs bs

pub returns : goal.returns
returns c r count lanes levels p fits holds =
    let same = ap (drop 1) holds.1 in
    let long : length lanes ≡ length p.lanes.now = omega (arith, fits.0, holds.0.0) in
    (ap (λ l. get_or l 0 0) (sym holds.1), sym (heads lanes levels p.lanes.now p.levels.now long same), sym (tails lanes levels p.lanes.now p.levels.now long same))
