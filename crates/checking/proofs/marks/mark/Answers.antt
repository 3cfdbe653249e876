use Rattle.std.proofs.Common.{◌≡◌, ◌+◌, ◌*◌, ◌%◌, ◌^◌, sym, refl, ap, ◌∙◌, arith}
use Rattle.std.proofs.lemmas.Nat.{one_shl}
use Rattle.rack.specs.Racks.{tail_port}
use Rattle.routing.specs.Turns.{turn_place}
use Rattle.routing.proofs.Tests.{turns_enters, entered}
use Rattle.checking.proofs.Adding.{adds_mark}
use Rattle.checking.proofs.marks.mark.Goals as goal

pub bounds-marks-place : goal.bounds-marks-place
bounds-marks-place c =
    let r = c.args.rack.now in
    let below = (entered r c.args.one.channel.0 (turns_enters r c.args.one.channel.0 c.args.other.channel.0 c.requires.turn)).0 in
    let t = rw c.unwrap-port.ensures at c.turn_port.ensures in
    omega arith

pub returns : goal.returns
returns c =
    let t = rw c.unwrap-port.ensures at c.turn_port.ensures in
    let b = 8 * c.args.one.lane.number + c.args.other.lane.number in
    let n : 8 * c.number.result + c.number-2.result ≡ b = omega (arith, c.number.ensures, c.number-2.ensures) in
    let shift : 1 * 2 ^ (8 * c.number.result + c.number-2.result) % 2 ^ 64 ≡ 2 ^ b = one_shl (8 * c.number.result + c.number-2.result) 64 (omega (arith, c.number.ensures, c.number-2.ensures)) ∙ ap (λ k. 2 ^ k) n in
    let at : c.turn-place.result ≡ turn_place c.args.one.channel.0 (tail_port c.args.rack.now c.args.other.channel.0) = c.turn-place.ensures ∙ ap (turn_place c.args.one.channel.0) t.1 in
    let below = (entered c.args.rack.now c.args.one.channel.0 (turns_enters c.args.rack.now c.args.one.channel.0 c.args.other.channel.0 c.requires.turn)).0 in
    adds_mark c.args.marks.now c.turn-place.result _ b (2 ^ b) _ at (sym shift) (omega arith) refl
