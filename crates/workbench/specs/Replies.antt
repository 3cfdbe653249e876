-- The lines that answer calls, as bytes. Assumes nothing.
use Rattle.std.specs.Prelude.{ℕ, List, [], ◌∷◌, ◌++◌, Some, None, Option, codes}
use Rattle.routing.specs.declared.pair.Pair.{Pair}
use Rattle.routing.specs.declared.fault.WalkFault.{WalkFault}
use Rattle.fabric.specs.declared.call.Done.TheVariants.{Admitted, Forwarded, Taken}
use Rattle.fabric.specs.declared.fault.FabricFault.{FabricFault}
use Rattle.fabric.specs.Faults.{fabric_refusal}
use Rattle.report.specs.declared.refusal.Told.{Told}
use Rattle.report.specs.Text.{ending, refused_line}
use Rattle.report.specs.Refusals.{of_file, of_pair, of_walk}
use Rattle.up_down.specs.declared.fault.UpDownFault.{UpDownFault}
use Rattle.up_down.specs.Faults.{up_down_refusal}
use Rattle.workbench.specs.declared.reply.Reply.{Reply}
use Rattle.workbench.specs.declared.reply.Reply.TheVariants.{Done, Refused, Closed, Unknown}

-- `ok` and numbers
abbrev pub ok_line : List ℕ → List ℕ
ok_line ns = codes "ok" ++ ending ns

-- the bytes of an answer: to a forward the channel and the lane that the packet moved to, to a take the pair and the tag of the packet, at the close how many packets wait
abbrev pub reply_text : Reply → List ℕ
reply_text (Done Admitted) = ok_line []
reply_text (Done (Forwarded c l)) = ok_line (c.0 ∷ l.number ∷ [])
reply_text (Done (Taken d)) = ok_line (d.pair.sender.0 ∷ d.pair.receiver.0 ∷ d.tag ∷ [])
reply_text (Refused t) = refused_line t
reply_text (Closed n) = ok_line (n ∷ [])
reply_text (Unknown n) = codes "what?" ++ ending (n ∷ [])

-- what is told by a number of the fabric's own, with the pair and the hop that it is about; or what is told of the fault of a walk
abbrev pub told_by : Option ℕ → Option Pair → ℕ → Option WalkFault → Option Told
told_by (Some n) p k w = of_pair (Some n) p k
told_by None p k None = None
told_by None p k (Some f) = of_walk f

-- what is told of a fault of the fabric
abbrev pub told_of : FabricFault → Option Told
told_of f = told_by (fabric_refusal f).number (fabric_refusal f).about (fabric_refusal f).hop (fabric_refusal f).walk

-- what is told where no up-down source is made: its number, and the node that it is about in the place of the sender
abbrev pub told_root : UpDownFault → Option Told
told_root f = of_file (up_down_refusal f).number (up_down_refusal f).about
