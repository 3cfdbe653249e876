-- One packet through the fabric of the triangle. Assumes nothing.
use Rattle.std.proofs.Common.{lit≤}
use Rattle.std.specs.Prelude.{◌≡◌, ℕ, ◌*◌, ◌≤◌, List, [], ◌∷◌, length, Ok, Err}
use Rattle.rack.specs.declared.rack.Rack.{Rack}
use Rattle.rack.specs.declared.numbers.UpTo.{UpTo}
use Rattle.rack.specs.Racks.{channel_count}
use Rattle.example_racks.specs.declared.TheConstants.{CLOCKWISE}
use Rattle.courses.specs.Queues.{Queues}
use Rattle.builder.specs.Method.{tables}
use Rattle.builder.specs.Outcomes.{needed}
use Rattle.fabric.specs.declared.packet.Packet.{Packet}
use Rattle.fabric.specs.declared.call.Call.{Call}
use Rattle.fabric.specs.declared.call.Call.TheVariants.{Admit, Forward, Take}
use Rattle.fabric.specs.declared.call.Done.TheVariants.{Admitted, Forwarded, Taken}
use Rattle.fabric.specs.declared.fault.FabricFault.TheVariants.{Full}
use Rattle.fabric.specs.Calls.{setup, NothingWaits, Answer}
use Rattle.fabric.specs.Courses.{Performs}
use Rattle.examples.specs.Racks.{Triangle, pair_of, stored_rows}
use Rattle.examples.specs.Triangles.{two_lane_tables}

-- lane 0
abbrev pub lane_0 : UpTo 7
lane_0 = record { number = 0; within = lit≤ tt }

-- lane 1
abbrev pub lane_1 : UpTo 7
lane_1 = record { number = 1; within = lit≤ tt }

-- a packet of 0 and 2 with tag 9 is admitted, and one of 0 and 1 behind it; the first is forwarded from queue to queue, and taken
abbrev pub passage : ℕ → List Call
passage tag =
    Admit (pair_of 0 2) 9 ∷ Admit (pair_of 0 1) tag ∷ Forward (record { 0 = 0 }) ∷ Forward (record { 0 = 48 }) ∷ Forward (record { 0 = 65 }) ∷ Take (record { 0 = 40 }) ∷ []

-- the second finds its queue full; the first goes to lane 0 of channel 6, to lane 1 of channel 8 and to lane 0 of channel 5, and is told as it was admitted
abbrev pub passage_answers : List Answer
passage_answers =
    Ok Admitted
    ∷ Err (Full (pair_of 0 1) 0)
    ∷ Ok (Forwarded (record { 0 = 6 }) lane_0)
    ∷ Ok (Forwarded (record { 0 = 8 }) lane_1)
    ∷ Ok (Forwarded (record { 0 = 5 }) lane_0)
    ∷ Ok (Taken (record { pair = pair_of 0 2; tag = 9 }))
    ∷ []

-- so these calls are answered under the plan that is built with two lanes, where a queue holds one packet and nothing waits at first; and nothing waits at the end
abbrev pub Passage : Type 0
Passage =
    (r : Rack) (lanes levels : List ℕ) (before after : Queues Packet) (tag : ℕ) (answers : List Answer) → Triangle r → needed r (tables lanes levels) ≡ two_lane_tables r →
    8 * channel_count r ≤ length before → NothingWaits r before → Performs (setup (stored_rows r CLOCKWISE lanes) levels 2 1) before (passage tag) answers after →
    (answers ≡ passage_answers) × NothingWaits r after
