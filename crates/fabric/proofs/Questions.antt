-- The questions that a call asks, in their order: the first that is not answered yes is the refusal. Assumes nothing.
use Rattle.std.proofs.Common.{◌≡◌, ◌≢◌, ℕ, zero, suc, ◌+◌, ◌*◌, ◌/◌, ◌<◌, ◌≤◌, true, false, List, ◌∷◌, length, get_or, Some, Err, sym, refl, ap, ◌∙◌, subst, ⊎_elim, arith, below_none, below_more}
use Rattle.std.specs.Prelude.{unwrap_or}
use Rattle.std.proofs.lemmas.Bool.{both_ways, cases_order}
use Rattle.rack.specs.Racks.{head, Leaving}
use Rattle.routing.specs.declared.pair.Pair.{Pair}
use Rattle.routing.specs.declared.fault.WalkFault.{WalkFault}
use Rattle.routing.specs.declared.fault.WalkFault.TheVariants.{NoChannel, Elsewhere, Lane}
use Rattle.routing.specs.Sources.{enters_switch}
use Rattle.routing.specs.Turns.{turns}
use Rattle.routing.specs.Paths.{Hop, hop}
use Rattle.routing.specs.Walks.{Advances}
use Rattle.routing.proofs.Hops.{only_out}
use Rattle.routing.specs.Plans.{OneToEight}
use Rattle.checking.specs.Plans.{virtual}
use Rattle.courses.specs.Queues.{Queues, at}
use Rattle.fabric.specs.declared.packet.Packet.{Packet}
use Rattle.fabric.specs.declared.fault.FabricFault.{FabricFault}
use Rattle.fabric.specs.declared.fault.FabricFault.TheVariants.{Lanes, Tables, NoPair, Level, NoQueue, Empty, Misplaced, Walk, Full}
use Rattle.fabric.specs.Padded.{no_packet}
use Rattle.fabric.specs.Packets.{next_hop}
use Rattle.fabric.specs.Calls.{Setup, queue_count, EnoughFor, level_for, PairHere, Admits, AdmitRefused, First, NoneFirst, GoesOn, NoWayOn, CanForward, ForwardRefused, CanTake, TakeRefused}

-- the questions before k are answered yes, and k is not
pub record Stops (A : ℕ → Type 0) (k : ℕ) : Type 0 where
  pub passed : (j : ℕ) → j < k → A j
  pub not : A k → ⊥

-- the fault is that of the question that stops the call
abbrev pub Stopped : (ℕ → Type 0) → (ℕ → FabricFault) → FabricFault → Type 0
Stopped A fault f = (k : ℕ) × (f ≡ fault k) × Stops A k

module _ (A : ℕ → Type 0) where
  one_stop : (k m : ℕ) → Stops A k → Stops A m → k ≡ m
  one_stop k m a b =
      ⊎_elim (λ e. e)
      (λ apart. absurd (⊎_elim (λ (l : k < m). a.not (b.passed k l)) (λ (l : m < k). b.not (a.passed m l)) apart))
      (cases_order k m)

  -- one call is refused for one fault
  pub one_fault : (fault : ℕ → FabricFault) (f h : FabricFault) → Stopped A fault f → Stopped A fault h → f ≡ h
  one_fault fault f h a b = a.1 ∙ ap fault (one_stop a.0 b.0 a.2 b.2) ∙ sym b.1

  -- every call asks first whether it can start
  two : A 0 × A 1 → (j : ℕ) → j < 2 → A j
  two h = below_more A 1 (below_more A 0 (below_none A) h.0) h.1

pub same_head : (l : List Packet) (p o : Packet) (ps os : List Packet) → l ≡ p ∷ ps → l ≡ o ∷ os → (p ≡ o) × (ps ≡ os)
same_head l p o ps os a b = (cc, cc)

module _ (s : Setup) (qs : Queues Packet) where
  -- of an admit
  abbrev pub AdmitAsks : Pair → ℕ → Type 0
  AdmitAsks p zero = OneToEight s.lanes
  AdmitAsks p (suc zero) = EnoughFor s qs
  AdmitAsks p (suc (suc zero)) = PairHere s p
  AdmitAsks p (suc (suc (suc zero))) = level_for s p ≤ 15
  AdmitAsks p (suc (suc (suc (suc k)))) = (c : ℕ) → Leaving s.routes.rack p.sender.0 c → length (at qs (8 * c)) < s.depth

  abbrev pub admit_fault : Pair → ℕ → FabricFault
  admit_fault p zero = Lanes
  admit_fault p (suc zero) = Tables
  admit_fault p (suc (suc zero)) = NoPair p
  admit_fault p (suc (suc (suc zero))) = Level p
  admit_fault p (suc (suc (suc (suc k)))) = Full p 0

  module _ (p : Pair) where
    abbrev A : ℕ → Type 0
    A = AdmitAsks p

    pub admit_stops : (f : FabricFault) → AdmitRefused s qs p f → Stopped A (admit_fault p) f
    admit_stops Lanes h = (0, refl, record { passed = below_none A; not = h })
    admit_stops Tables h = (1, refl, record { passed = below_more A 0 (below_none A) h.0; not = h.1 })
    admit_stops (NoPair q) h = (2, ap NoPair h.1.0, record { passed = two A h.0; not = h.1.1 })
    admit_stops (Level q) h = (3, ap Level h.1.0, record { passed = below_more A 2 (two A h.0) h.1.1; not = λ l. omega (arith, h.1.2) })
    admit_stops (Full q i) h = (
      4,
      (λ t. Full (h.1 t) (h.2 t)),
      record { passed = below_more A 3 (below_more A 2 (two A h.0) h.3) h.4; not = λ fits. omega (arith, fits h.5.0 h.5.1, h.5.2) },
    )
    admit_stops _ h = elim h [ ]

    pub admit_passes : (t : ℕ) (after : Queues Packet) → Admits s qs p t after → (k : ℕ) → A k
    admit_passes t after m zero = m.ready.0
    admit_passes t after m (suc zero) = m.ready.1
    admit_passes t after m (suc (suc zero)) = m.pair
    admit_passes t after m (suc (suc (suc zero))) = omega (arith, m.its_level, m.packet.level.within)
    admit_passes t after m (suc (suc (suc (suc k)))) = λ c l. subst (λ o. length (at qs (8 * o)) < s.depth) (only_out s.routes.rack p.sender.0 m.out c m.pair.0 m.leaves l) m.fits

  -- of a forward or a take from queue x
  module _ (x : ℕ) where
    -- the first packet, the channel that is named for it and its lane there; any, where there is none
    abbrev pub packet : Packet
    packet = get_or (at qs x) 0 no_packet

    abbrev Next : ℕ → Type 0
    Next d = s.routes.next (x / 8) packet.pair.receiver.0 ≡ Some d

    abbrev channel : ℕ
    channel = unwrap_or (s.routes.next (x / 8) packet.pair.receiver.0) 0

    abbrev lane : ℕ
    lane = s.routes.lane (x / 8) channel packet.level.number

    -- what is first, named and gone on to is just that
    is_packet : (p : Packet) (rest : List Packet) → First s qs x p rest → p ≡ packet
    is_packet p rest h = ap (λ l. get_or l 0 no_packet) (sym h.2)

    is_channel : (d : ℕ) → Next d → d ≡ channel
    is_channel d e = ap (λ o. unwrap_or o 0) (sym e)

    -- first whether there is a packet, and then more
    abbrev Asks : (ℕ → Type 0) → ℕ → Type 0
    Asks more zero = OneToEight s.lanes
    Asks more (suc zero) = EnoughFor s qs
    Asks more (suc (suc zero)) = x < queue_count s
    Asks more (suc (suc (suc zero))) = 0 < length (at qs x)
    Asks more (suc (suc (suc (suc k)))) = more k

    abbrev pub queue_fault : ℕ → FabricFault
    queue_fault zero = Lanes
    queue_fault (suc zero) = Tables
    queue_fault (suc (suc zero)) = NoQueue
    queue_fault (suc (suc (suc zero))) = Empty
    queue_fault (suc (suc (suc (suc zero)))) = Misplaced packet.pair packet.hop
    queue_fault (suc (suc (suc (suc (suc zero))))) = Walk (NoChannel packet.pair (next_hop packet.hop))
    queue_fault (suc (suc (suc (suc (suc (suc zero)))))) = Walk (Elsewhere packet.pair (next_hop packet.hop))
    queue_fault (suc (suc (suc (suc (suc (suc (suc zero))))))) = Walk (Lane packet.pair (next_hop packet.hop))
    queue_fault (suc (suc (suc (suc (suc (suc (suc (suc k)))))))) = Full packet.pair (next_hop packet.hop)

    module _ (more : ℕ → Type 0) where
      -- without a first packet one of the first four questions stops the call
      none_stops : (f : FabricFault) → NoneFirst s qs x f → Stopped (Asks more) queue_fault f
      none_stops Lanes h = (0, refl, record { passed = below_none (Asks more); not = h })
      none_stops Tables h = (1, refl, record { passed = below_more (Asks more) 0 (below_none (Asks more)) h.0; not = h.1 })
      none_stops NoQueue h = (2, refl, record { passed = two (Asks more) h.0; not = λ l. omega (arith, h.1) })
      none_stops Empty h = (3, refl, record { passed = below_more (Asks more) 2 (two (Asks more) h.0) h.1; not = λ some. omega (arith, some, ap length h.2) })
      none_stops _ h = elim h [ ]

      -- with one, none of them does
      four : (p : Packet) (rest : List Packet) → First s qs x p rest → (j : ℕ) → j < 4 → Asks more j
      four p rest h = below_more (Asks more) 3 (below_more (Asks more) 2 (two (Asks more) h.0) h.1) (omega (arith, ap length h.2))

    -- then, of a forward, whether the packet goes on from there, by that channel and on that lane
    abbrev MoveAsks : ℕ → Type 0
    MoveAsks zero = enters_switch s.routes.rack (x / 8) ≡ true
    MoveAsks (suc zero) = Next channel
    MoveAsks (suc (suc zero)) = turns s.routes.rack (x / 8) channel ≡ true
    MoveAsks (suc (suc (suc zero))) = lane < s.lanes
    MoveAsks (suc (suc (suc (suc k)))) = length (at qs (8 * channel + lane)) < s.depth

    abbrev pub ForwardAsks : ℕ → Type 0
    ForwardAsks = Asks MoveAsks

    is_hop : (h : Hop) → GoesOn s x packet h → h ≡ hop channel lane
    is_hop h goes =
        let same = is_channel h.channel goes.1 in
        λ i. hop (same i) ((goes.3 ∙ ap (λ d. s.routes.lane (x / 8) d packet.level.number) same) i)

    -- where it goes on, none of the first eight does
    eight : (p : Packet) (rest : List Packet) → First s qs x p rest → GoesOn s x packet (hop channel lane) → (j : ℕ) → j < 8 → ForwardAsks j
    eight p rest first goes =
        let F = ForwardAsks in
        below_more F 7 (below_more F 6 (below_more F 5 (below_more F 4 (four MoveAsks p rest first) goes.0) goes.1) goes.2) goes.4

    -- where the source or the map is at fault, the question after the first five that is about it does
    walk_stops : (w : WalkFault) → ((j : ℕ) → j < 5 → ForwardAsks j) → Advances s.routes s.lanes packet.pair packet.level.number (x / 8) (next_hop packet.hop) (Err w) → Stopped ForwardAsks queue_fault (Walk w)
    walk_stops (NoChannel q i) five h = (5, (λ t. Walk (NoChannel (h.0 t) (h.1 t))), record { passed = five; not = λ named. cc (named, h.2) })
    walk_stops (Elsewhere q i) five h =
        let d = subst (λ d. Next d × (turns s.routes.rack (x / 8) d ≡ false)) (is_channel h.2.0 h.2.1) (h.2.1, h.2.2) in (
          6,
          (λ t. Walk (Elsewhere (h.0 t) (h.1 t))),
          record { passed = below_more ForwardAsks 5 five d.0; not = both_ways _ d.1 },
        )
    walk_stops (Lane q i) five h =
        let d = subst (λ d. Next d × (turns s.routes.rack (x / 8) d ≡ true) × (s.lanes ≤ s.routes.lane (x / 8) d packet.level.number)) (is_channel h.2.0 h.2.1) (h.2.1, h.2.2, h.2.3) in (
          7,
          (λ t. Walk (Lane (h.0 t) (h.1 t))),
          record { passed = below_more ForwardAsks 6 (below_more ForwardAsks 5 five d.0) d.1; not = λ low. omega (arith, d.2) },
        )
    walk_stops _ five h = elim h [ ]

    pub forward_stops : (f : FabricFault) → ForwardRefused s qs x f → Stopped ForwardAsks queue_fault f
    forward_stops Lanes h = none_stops MoveAsks Lanes h
    forward_stops Tables h = none_stops MoveAsks Tables h
    forward_stops NoQueue h = none_stops MoveAsks NoQueue h
    forward_stops Empty h = none_stops MoveAsks Empty h
    forward_stops (Misplaced q i) h =
        let why = subst (λ p. NoWayOn s x p (Misplaced q i)) (is_packet h.0 h.1 h.2) h.3 in
        (4, (λ t. Misplaced (why.0 t) (why.1 t)), record { passed = four MoveAsks h.0 h.1 h.2; not = both_ways _ why.2 })
    forward_stops (Walk w) h =
        let why = subst (λ p. NoWayOn s x p (Walk w)) (is_packet h.0 h.1 h.2) h.3 in
        walk_stops w (below_more ForwardAsks 4 (four MoveAsks h.0 h.1 h.2) why.0) why.1
    forward_stops (Full q i) h =
        let why = subst (λ p. GoesOn s x p h.2 × (q ≡ p.pair) × (i ≡ next_hop p.hop)) (is_packet h.0 h.1 h.3) (h.4, h.5, h.6) in
        let on = subst (λ k. GoesOn s x packet k × (s.depth ≤ length (at qs (virtual k)))) (is_hop h.2 why.0) (why.0, h.7) in
        (8, (λ t. Full (why.1 t) (why.2 t)), record { passed = eight h.0 h.1 h.3 on.0; not = λ fits. omega (arith, on.1) })
    forward_stops _ h = elim h [ ]

    -- where the first packet can go on, every question is answered yes
    pub forward_passes : (p : Packet) (rest : List Packet) (h : Hop) → CanForward s qs x p rest h → (k : ℕ) → ForwardAsks k
    forward_passes p rest h can k = go k
      where
        goes : GoesOn s x packet h
        goes = subst (λ o. GoesOn s x o h) (is_packet p rest can.first) can.goes

        on : GoesOn s x packet (hop channel lane) × (length (at qs (8 * channel + lane)) < s.depth)
        on = subst (λ k. GoesOn s x packet k × (length (at qs (virtual k)) < s.depth)) (is_hop h goes) (goes, can.fits)

        go : (k : ℕ) → ForwardAsks k
        go (suc (suc (suc (suc (suc (suc (suc (suc k)))))))) = on.1
        go k = eight p rest can.first on.0 k (omega arith)

    -- then, of a take, whether the packet is at its receiver
    abbrev HomeAsks : ℕ → Type 0
    HomeAsks k = head s.routes.rack (x / 8) ≡ packet.pair.receiver.0

    abbrev pub TakeAsks : ℕ → Type 0
    TakeAsks = Asks HomeAsks

    pub take_stops : (f : FabricFault) → TakeRefused s qs x f → Stopped TakeAsks queue_fault f
    take_stops Lanes h = none_stops HomeAsks Lanes h
    take_stops Tables h = none_stops HomeAsks Tables h
    take_stops NoQueue h = none_stops HomeAsks NoQueue h
    take_stops Empty h = none_stops HomeAsks Empty h
    take_stops (Misplaced q i) h =
        let why = subst (λ p. (q ≡ p.pair) × (i ≡ p.hop) × (head s.routes.rack (x / 8) ≢ p.pair.receiver.0)) (is_packet h.0 h.1 h.2) (h.3, h.4, h.5) in
        (4, (λ t. Misplaced (why.0 t) (why.1 t)), record { passed = four HomeAsks h.0 h.1 h.2; not = why.2 })
    take_stops _ h = elim h [ ]

    pub take_passes : (p : Packet) (rest : List Packet) → CanTake s qs x p rest → (k : ℕ) → TakeAsks k
    take_passes p rest can (suc (suc (suc (suc k)))) = subst (λ o. head s.routes.rack (x / 8) ≡ o.pair.receiver.0) (is_packet p rest can.first) can.home
    take_passes p rest can k = four HomeAsks p rest can.first k (omega arith)
