-- The answers to the lines of a course. Assumes nothing.
use Rattle.std.specs.Prelude.{◌≡◌, ℕ, zero, suc, ◌*◌, ◌⊎◌, List, [], ◌∷◌, ◌++◌, length, take, Some, None, Option, Ok, Err, MatchOption, sum_by, codes, decimal, string_bytes, String}
use Rattle.rack.specs.declared.rack.Rack.{Rack}
use Rattle.rack.specs.Racks.{channel_count}
use Rattle.courses.specs.Queues.{Queues, at}
use Rattle.fabric.specs.declared.packet.Packet.{Packet}
use Rattle.fabric.specs.declared.call.Call.{Call as Calling}
use Rattle.fabric.specs.Calls.{Setup, Answer, Acts}
use Rattle.report.specs.declared.refusal.Told.{Told}
use Rattle.workbench.specs.declared.reply.Reply.{Reply}
use Rattle.workbench.specs.declared.reply.Reply.TheVariants.{Done, Refused, Unknown}
use Rattle.workbench.specs.declared.request.Request.{Request}
use Rattle.workbench.specs.declared.request.Request.TheVariants.{Call, Waiting, Close}
use Rattle.workbench.specs.Requests.{AskedIn}
use Rattle.workbench.specs.Replies.{told_of, reply_text}

-- the line of what is told of a refusal, if anything is told
abbrev pub refusing : Option Told → Option Reply
refusing None = None
refusing (Some t) = Some (Refused t)

-- the line that answers a call, by its answer
abbrev pub replies : Answer → Option Reply
replies (Ok d) = Some (Done d)
replies (Err f) = refusing (told_of f)

-- what is shown of a queue: its number and how many packets wait in it; nothing of one in which none waits
abbrev pub queue_text : ℕ → ℕ → List ℕ
queue_text x zero = []
queue_text x (suc n) = 32 ∷ (decimal x ++ 58 ∷ decimal (suc n))

-- the same of the first n queues
abbrev pub queues_text : Queues Packet → ℕ → List ℕ
queues_text qs zero = []
queues_text qs (suc n) = queues_text qs n ++ queue_text n (length (at qs n))

-- how many packets wait, and in which queues how many
abbrev pub waiting_in : Queues Packet → List ℕ
waiting_in qs = (codes "ok " ++ decimal (sum_by length qs)) ++ (queues_text qs (length qs) ++ (10 ∷ []))

-- the same of all queues of a rack
abbrev pub waiting_text : Rack → Queues Packet → List ℕ
waiting_text r qs = waiting_in (take (8 * channel_count r) qs)

-- what is answered to what a line asks for, and what becomes of the packets
abbrev pub Answered : Setup → Queues Packet → ℕ → Option Request → List ℕ → Queues Packet → Type 0
Answered s before number None text after = (after ≡ before) × (text ≡ reply_text (Unknown number))
Answered s before number (Some Waiting) text after = (after ≡ before) × (text ≡ waiting_text s.routes.rack before)
Answered s before number (Some Close) text after = ⊥
Answered s before number (Some (Call c)) text after = (a : Answer) × (r : Reply) × Acts s before c a after × (replies a ≡ Some r) × (text ≡ reply_text r)

-- the same, where a line that asks to close has no answer
abbrev pub Answers : {A : Type 0} → Setup → Queues Packet → ℕ → Option Request → Option (String A) → Queues Packet → Type 0
Answers s before number q a after = MatchOption a ((q ≡ Some Close) × (after ≡ before)) (λ t. Answered s before number q (string_bytes t) after)

-- the same of the bytes of the line
abbrev pub AnswersLine : {A : Type 0} → Setup → Queues Packet → ℕ → List ℕ → Option (String A) → Queues Packet → Type 0
AnswersLine s before number line a after = (q : Option Request) × AskedIn line q × Answers s before number q a after

-- where no answer is made: nothing changed, or a call was made
abbrev pub KeptOrCalled : Setup → Queues Packet → Queues Packet → Type 0
KeptOrCalled s before after = (after ≡ before) ⊎ ((c : Calling) × (a : Answer) × Acts s before c a after)
