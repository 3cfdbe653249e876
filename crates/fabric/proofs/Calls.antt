-- From what the calls read and write to what they do to the packets. Assumes nothing.
use Rattle.std.proofs.Common.{◌≡◌, ℕ, ◌<◌, List, [], ◌∷◌, length, get_or, drop, sym, ap, ◌∙◌}
use Rattle.std.specs.Prelude.{MatchResult, ok_or, slice_get}
use Rattle.std.proofs.lemmas.List.{get_or_default}
use Rattle.courses.specs.Queues.{Queues, at}
use Rattle.fabric.specs.declared.packet.Packet.{Packet}
use Rattle.fabric.specs.declared.fault.FabricFault.{FabricFault}
use Rattle.fabric.specs.declared.fault.FabricFault.TheVariants.{Empty, Misplaced, Walk}
use Rattle.fabric.specs.Calls.{Setup, Ready, queue_count, First, NoneFirst, NoWayOn, ForwardRefused}

-- what is read within the queues is what waits there
pub seen : (qs : Queues Packet) (x k : ℕ) (l : List Packet) → k ≡ x → x < length qs → l ≡ get_or qs k l → at qs x ≡ l
seen qs x k l same there read = get_or_default qs x [] l there ∙ ap (λ n. get_or qs n l) (sym same) ∙ sym read

-- which packet is first in a queue that was read, or that none is
pub first_read :
    (s : Setup) (qs : Queues Packet) (x : ℕ) (l : List Packet) → Ready s qs → x < queue_count s → at qs x ≡ l →
    MatchResult (ok_or (slice_get l 0) Empty) (λ p. First s qs x p (drop 1 (at qs x))) (NoneFirst s qs x)
first_read s qs x [] ready there read = (ready, there, read)
first_read s qs x (p ∷ rest) ready there read = (ready, there, read ∙ ap (λ l. p ∷ drop 1 l) (sym read))

-- why nothing is forwarded, from why the packet cannot go on
pub forward_no_way : (s : Setup) (qs : Queues Packet) (x : ℕ) (p : Packet) (rest : List Packet) (f : FabricFault) → First s qs x p rest → NoWayOn s x p f → ForwardRefused s qs x f
forward_no_way s qs x p rest (Misplaced q i) first h = (p, rest, first, h)
forward_no_way s qs x p rest (Walk w) first h = (p, rest, first, h)
forward_no_way s qs x p rest _ first h = elim h [ ]
