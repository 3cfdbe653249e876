-- A call has one answer, and one that can be made is accepted. Assumes nothing.
use Rattle.std.proofs.Common.{◌≡◌, ℕ, ◌*◌, List, set, Ok, Err, sym, refl, ap, ◌∙◌, subst}
use Rattle.std.proofs.lemmas.Option.{same_Some}
use Rattle.rack.specs.declared.numbers.Channel.{Channel}
use Rattle.rack.specs.declared.numbers.UpTo.{UpTo}
use Rattle.routing.specs.declared.pair.Pair.{Pair}
use Rattle.routing.specs.Paths.{Hop, hop}
use Rattle.routing.proofs.Hops.{only_out}
use Rattle.checking.specs.Plans.{virtual}
use Rattle.courses.specs.Queues.{Queues, at, push}
use Rattle.fabric.specs.declared.packet.Packet.{Packet}
use Rattle.fabric.specs.declared.packet.Delivery.{Delivery}
use Rattle.fabric.specs.declared.fault.FabricFault.{FabricFault}
use Rattle.fabric.specs.declared.call.Call.TheVariants.{Admit, Forward, Take}
use Rattle.fabric.specs.declared.call.Done.TheVariants.{Admitted, Forwarded, Taken}
use Rattle.rack.proofs.Same.{same_number}
use Rattle.fabric.proofs.Same.{same_channel}
use Rattle.fabric.specs.Packets.{moved, delivery}
use Rattle.fabric.specs.Calls.{Setup, Admits, AdmitRefused, GoesOn, CanForward, Forwards, ForwardRefused, CanTake, Takes, TakeRefused, Answer}
use Rattle.fabric.specs.Laws.{OneAnswer, ForwardAccepted, TakeAccepted}
use Rattle.fabric.proofs.Questions.{one_fault, same_head, AdmitAsks, admit_fault, admit_stops, admit_passes, queue_fault, ForwardAsks, forward_stops, forward_passes, TakeAsks, take_stops, take_passes}

module _ (s : Setup) (qs : Queues Packet) where
  -- admit
  same_admitted : (p : Pair) (t : ℕ) (qs' qs'' : Queues Packet) → Admits s qs p t qs' → Admits s qs p t qs'' → qs' ≡ qs''
  same_admitted p t qs' qs'' m n =
      let out : m.out ≡ n.out = only_out s.routes.rack p.sender.0 m.out n.out m.pair.0 m.leaves n.leaves in
      let level : m.packet.level ≡ n.packet.level = same_number 15 m.packet.level n.packet.level (m.its_level ∙ sym n.its_level) in
      let pair : m.packet.pair ≡ n.packet.pair = m.its_pair ∙ sym n.its_pair in
      let hops : m.packet.hop ≡ n.packet.hop = m.its_hop ∙ sym n.its_hop in
      let tag : m.packet.tag ≡ n.packet.tag = m.its_tag ∙ sym n.its_tag in
      let packet : m.packet ≡ n.packet = λ i. record { pair = pair i; level = level i; hop = hops i; tag = tag i } in
      m.pushed ∙ (λ i. push qs (8 * out i) (packet i)) ∙ sym n.pushed

  admit_one : (p : Pair) (f h : FabricFault) → AdmitRefused s qs p f → AdmitRefused s qs p h → f ≡ h
  admit_one p f h a b = one_fault (AdmitAsks s qs p) (admit_fault s qs p) f h (admit_stops s qs p f a) (admit_stops s qs p h b)

  admit_both : (p : Pair) (t : ℕ) (after : Queues Packet) (f : FabricFault) → Admits s qs p t after → AdmitRefused s qs p f → ⊥
  admit_both p t after f m a = let x = admit_stops s qs p f a in x.2.not (admit_passes s qs p t after m x.0)

  -- forward
  pub same_goes : (x : ℕ) (p o : Packet) (h k : Hop) → p ≡ o → GoesOn s x p h → GoesOn s x o k → h ≡ k
  same_goes x p o h k same a b =
      let b' : GoesOn s x p k = subst (λ z. GoesOn s x z k) (sym same) b in
      let channel : h.channel ≡ k.channel = same_Some h.channel k.channel (sym a.1 ∙ b'.1) in
      let lane : h.lane ≡ k.lane = a.3 ∙ ap (λ d. s.routes.lane (Prim.Native.Nat.◌/◌ x 8) d p.level.number) channel ∙ sym b'.3 in
      λ i. hop (channel i) (lane i)

  same_forwarded : (x : ℕ) (h k : Hop) (qs' qs'' : Queues Packet) → Forwards s qs x h qs' → Forwards s qs x k qs'' → (h ≡ k) × (qs' ≡ qs'')
  same_forwarded x h k qs' qs'' m n =
      let same = same_head (at qs x) m.packet n.packet m.rest n.rest m.can.first.2 n.can.first.2 in
      let hops = same_goes x m.packet n.packet h k same.0 m.can.goes n.can.goes in
      (hops, m.pushed ∙ (λ i. push (set qs x (same.1 i)) (virtual (hops i)) (moved (same.0 i))) ∙ sym n.pushed)

  forward_one : (x : ℕ) (f h : FabricFault) → ForwardRefused s qs x f → ForwardRefused s qs x h → f ≡ h
  forward_one x f h a b = one_fault (ForwardAsks s qs x) (queue_fault s qs x) f h (forward_stops s qs x f a) (forward_stops s qs x h b)

  pub forward_both : (x : ℕ) (p : Packet) (rest : List Packet) (h : Hop) (f : FabricFault) → CanForward s qs x p rest h → ForwardRefused s qs x f → ⊥
  forward_both x p rest h f can a = let i = forward_stops s qs x f a in i.2.not (forward_passes s qs x p rest h can i.0)

  -- take
  same_taken : (x : ℕ) (d e : Delivery) (qs' qs'' : Queues Packet) → Takes s qs x d qs' → Takes s qs x e qs'' → (d ≡ e) × (qs' ≡ qs'')
  same_taken x d e qs' qs'' m n =
      let same = same_head (at qs x) m.packet n.packet m.rest n.rest m.can.first.2 n.can.first.2 in
      (m.told ∙ ap delivery same.0 ∙ sym n.told, m.left ∙ ap (set qs x) same.1 ∙ sym n.left)

  take_one : (x : ℕ) (f h : FabricFault) → TakeRefused s qs x f → TakeRefused s qs x h → f ≡ h
  take_one x f h a b = one_fault (TakeAsks s qs x) (queue_fault s qs x) f h (take_stops s qs x f a) (take_stops s qs x h b)

  pub take_both : (x : ℕ) (p : Packet) (rest : List Packet) (f : FabricFault) → CanTake s qs x p rest → TakeRefused s qs x f → ⊥
  take_both x p rest f can a = let i = take_stops s qs x f a in i.2.not (take_passes s qs x p rest can i.0)

  -- two refusals, which change nothing
  refusals : (f h : FabricFault) (qs' qs'' : Queues Packet) → f ≡ h → qs' ≡ qs → qs'' ≡ qs → (◌≡◌ {A = Answer} (Err f) (Err h)) × (qs' ≡ qs'')
  refusals f h qs' qs'' e a b = (ap Err e, a ∙ sym b)

  forwarded_same : (c d : Channel) (l m : UpTo 7) → hop c.0 l.number ≡ hop d.0 m.number → ◌≡◌ {A = Answer} (Ok (Forwarded c l)) (Ok (Forwarded d m))
  forwarded_same c d l m e =
      let a : c ≡ d = same_channel c d (ap (λ (h : Hop). h.channel) e) in
      let b : l ≡ m = same_number 7 l m (ap (λ (h : Hop). h.lane) e) in
      λ i. Ok (Forwarded (a i) (b i))

pub one_answer : OneAnswer
one_answer s qs qs' qs'' (Admit p t) (Ok Admitted) (Ok Admitted) m n = (refl, same_admitted s qs p t qs' qs'' m n)
one_answer s qs qs' qs'' (Admit p t) (Ok Admitted) (Err f) m n = absurd (admit_both s qs p t qs' f m n.1)
one_answer s qs qs' qs'' (Admit p t) (Ok Admitted) _ m n = elim n [ ]
one_answer s qs qs' qs'' (Admit p t) (Err f) (Ok Admitted) m n = absurd (admit_both s qs p t qs'' f n m.1)
one_answer s qs qs' qs'' (Admit p t) (Err f) (Err h) m n = refusals s qs f h qs' qs'' (admit_one s qs p f h m.1 n.1) m.0 n.0
one_answer s qs qs' qs'' (Admit p t) (Err f) _ m n = elim n [ ]
one_answer s qs qs' qs'' (Forward x) (Ok (Forwarded c l)) (Ok (Forwarded d k)) m n =
    let same = same_forwarded s qs x.0 (hop c.0 l.number) (hop d.0 k.number) qs' qs'' m n in
    (forwarded_same s qs c d l k same.0, same.1)
one_answer s qs qs' qs'' (Forward x) (Ok (Forwarded c l)) (Err f) m n = absurd (forward_both s qs x.0 m.packet m.rest (hop c.0 l.number) f m.can n.1)
one_answer s qs qs' qs'' (Forward x) (Ok (Forwarded c l)) _ m n = elim n [ ]
one_answer s qs qs' qs'' (Forward x) (Err f) (Ok (Forwarded c l)) m n = absurd (forward_both s qs x.0 n.packet n.rest (hop c.0 l.number) f n.can m.1)
one_answer s qs qs' qs'' (Forward x) (Err f) (Err h) m n = refusals s qs f h qs' qs'' (forward_one s qs x.0 f h m.1 n.1) m.0 n.0
one_answer s qs qs' qs'' (Forward x) (Err f) _ m n = elim n [ ]
one_answer s qs qs' qs'' (Take x) (Ok (Taken d)) (Ok (Taken e)) m n = let same = same_taken s qs x.0 d e qs' qs'' m n in (ap (λ t. Ok (Taken t)) same.0, same.1)
one_answer s qs qs' qs'' (Take x) (Ok (Taken d)) (Err f) m n = absurd (take_both s qs x.0 m.packet m.rest f m.can n.1)
one_answer s qs qs' qs'' (Take x) (Ok (Taken d)) _ m n = elim n [ ]
one_answer s qs qs' qs'' (Take x) (Err f) (Ok (Taken d)) m n = absurd (take_both s qs x.0 n.packet n.rest f n.can m.1)
one_answer s qs qs' qs'' (Take x) (Err f) (Err h) m n = refusals s qs f h qs' qs'' (take_one s qs x.0 f h m.1 n.1) m.0 n.0
one_answer s qs qs' qs'' (Take x) (Err f) _ m n = elim n [ ]
one_answer s qs qs' qs'' _ _ _ m n = elim m [ ]

pub forward_accepted : ForwardAccepted
forward_accepted s qs after x p rest h (Ok (Forwarded c l)) can m =
    let same = same_head (at qs x.0) m.packet p m.rest rest m.can.first.2 can.first.2 in
    (c, l, refl, same_goes s qs x.0 m.packet p (hop c.0 l.number) h same.0 m.can.goes can.goes)
forward_accepted s qs after x p rest h (Err f) can m = absurd (forward_both s qs x.0 p rest h f can m.1)
forward_accepted s qs after x p rest h _ can m = elim m [ ]

pub take_accepted : TakeAccepted
take_accepted s qs after x p rest (Ok (Taken d)) can m =
    let same = same_head (at qs x.0) m.packet p m.rest rest m.can.first.2 can.first.2 in
    ap (λ t. Ok (Taken t)) (m.told ∙ ap delivery same.0)
take_accepted s qs after x p rest (Err f) can m = absurd (take_both s qs x.0 p rest f can m.1)
take_accepted s qs after x p rest _ can m = elim m [ ]
