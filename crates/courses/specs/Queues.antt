-- Packets of any kind in queues of limited room, and what can happen to them. Assumes nothing.
use Rattle.std.specs.Prelude.{◌≡◌, ℕ, ◌<◌, List, [], ◌∷◌, ◌++◌, length, slice_index_or, slice_set}

-- where a packet goes: on to a queue, out of the queues, or nowhere
pub data Onward : Type 0 where
  to : ℕ → Onward
  home : Onward
  nowhere : Onward

-- how many packets a queue has room for, where a packet is admitted, and where it goes on from a queue
pub record Rules (P : Type 0) : Type 0 where
  pub room : ℕ → ℕ
  pub start : P → Onward
  pub onward : ℕ → P → Onward

-- a queue is the list of its packets, the first to leave first
abbrev pub Queues : Type 0 → Type 0
Queues P = List (List P)

-- the packets of queue x; none where there is no such queue
abbrev pub at : {P : Type 0} → Queues P → ℕ → List P
at q x = slice_index_or q x []

-- the queues with one packet more, last in queue x
abbrev pub push : {P : Type 0} → Queues P → ℕ → P → Queues P
push q x p = slice_set q x (at q x ++ (p ∷ []))

-- the packet comes last in its first queue, which has room
pub record Admits {P : Type 0} (rules : Rules P) (q : Queues P) (p : P) (q' : Queues P) : Type 0 where
  pub into : ℕ
  pub starts : rules.start p ≡ to into
  pub there : into < length q
  pub fits : length (at q into) < rules.room into
  pub after : q' ≡ push q into p

-- the first packet of x comes last in the queue that it goes on to, which has room
pub record Forwards {P : Type 0} (rules : Rules P) (q : Queues P) (x : ℕ) (q' : Queues P) : Type 0 where
  pub packet : P
  pub rest : List P
  pub next : ℕ
  pub first : at q x ≡ packet ∷ rest
  pub leads : rules.onward x packet ≡ to next
  pub there : next < length q
  pub fits : length (at q next) < rules.room next
  pub after : q' ≡ push (slice_set q x rest) next packet

-- the first packet of x leaves, since it is home
pub record Takes {P : Type 0} (rules : Rules P) (q : Queues P) (x : ℕ) (packet : P) (q' : Queues P) : Type 0 where
  pub rest : List P
  pub first : at q x ≡ packet ∷ rest
  pub ends : rules.onward x packet ≡ home
  pub after : q' ≡ slice_set q x rest

-- what comes of a call
pub data Event (P : Type 0) : Type 0 where
  refused : Event P
  admitted : P → Event P
  forwarded : Event P
  taken : P → Event P

-- a call that is refused changes nothing
pub data Step {P : Type 0} (rules : Rules P) (q : Queues P) : Event P → Queues P → Type 0 where
  refuses : Step rules q refused q
  admits : {p : P} {q' : Queues P} → Admits rules q p q' → Step rules q (admitted p) q'
  forwards : {x : ℕ} {q' : Queues P} → Forwards rules q x q' → Step rules q forwarded q'
  takes : {x : ℕ} {p : P} {q' : Queues P} → Takes rules q x p q' → Step rules q (taken p) q'

-- any calls one after another
pub data Course {P : Type 0} (rules : Rules P) : Queues P → List (Event P) → Queues P → Type 0 where
  done : {q : Queues P} → Course rules q [] q
  then : {q q' q'' : Queues P} {e : Event P} {es : List (Event P)} → Step rules q e q' → Course rules q' es q'' → Course rules q (e ∷ es) q''
