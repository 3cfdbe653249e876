-- The places of a queue, used and unused. Assumes nothing.
use Rattle.std.specs.Prelude.{◌≡◌, ℕ, ◌-◌, ◌≤◌, List, ◌++◌, length, take, drop, replicate}
use Rattle.std.proofs.Common.{lit≤, sym, ap, ◌∙◌, arith, length-take}
use Rattle.std.proofs.lemmas.List.{take-append-drop}
use Rattle.fabric.specs.declared.packet.Packet.{Packet}

-- what stands in the unused places
abbrev pub no_packet : Packet
no_packet = record { pair = record { sender = record { 0 = 0 }; receiver = record { 0 = 0 } }; level = record { number = 0; within = lit≤ tt }; hop = 0; tag = 0 }

-- eight places, of which the first n are used
pub record Padded (packets : List Packet) (n : ℕ) : Type 0 where
  pub few : n ≤ 8
  pub eight : length packets ≡ 8
  pub unused : drop n packets ≡ replicate (8 - n) no_packet

-- the places of a queue that holds these packets
abbrev pub padded : List Packet → List Packet
padded ps = ps ++ replicate (8 - length ps) no_packet

-- the used places, padded again, are all eight; it stands here because the type of queues cites it
pub padded-take : (packets : List Packet) (n : ℕ) → Padded packets n → (padded (take n packets) ≡ packets) × (length (take n packets) ≡ n)
padded-take packets n h =
    let long : length (take n packets) ≡ n = omega (arith, length-take n packets, h.few, h.eight) in
    let unused : replicate (8 - length (take n packets)) no_packet ≡ drop n packets = ap (λ k. replicate (8 - k) no_packet) long ∙ sym h.unused in
    (ap (λ l. take n packets ++ l) unused ∙ take-append-drop n packets, long)
