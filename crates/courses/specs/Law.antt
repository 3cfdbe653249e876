-- What holds after any course of calls, where every packet has a path and no queues follow one another in a ring. Assumes nothing.
use Rattle.std.specs.Prelude.{All, ◌≡◌, ℕ, suc, ◌+◌, ◌<◌, Bool, true, cond, ◌↔◌, List, [], ◌∷◌, ◌++◌, length, sum_by, filter, ◌==◌}
use Rattle.ranking.specs.Graphs.{NoRing}
use Rattle.courses.specs.Queues.{to, home, Rules, Queues, at, Forwards, Takes, Event, refused, admitted, forwarded, taken, Course}

-- xs are the queues that p passes from x until it is home
pub data Path {P : Type 0} (rules : Rules P) (p : P) : ℕ → List ℕ → Type 0 where
  ends : {x : ℕ} → rules.onward x p ≡ home → Path rules p x (x ∷ [])
  goes : {x y : ℕ} {ys : List ℕ} → rules.onward x p ≡ to y → Path rules p y ys → Path rules p x (x ∷ ys)

-- y comes right after x
pub data Next (x y : ℕ) : List ℕ → Type 0 where
  here : {zs : List ℕ} → Next x y (x ∷ y ∷ zs)
  later : {z : ℕ} {zs : List ℕ} → Next x y zs → Next x y (z ∷ zs)

-- how many queues of a path come from x on, x included: the hops ahead of a packet in x; 0 off the path
abbrev pub ahead : List ℕ → ℕ → ℕ
ahead [] x = 0
ahead (z ∷ zs) x = cond (z == x) (suc (length zs)) (ahead zs x)

-- no queue comes twice
abbrev pub Once : List ℕ → Type 0
Once [] = Unit {0}
Once (x ∷ xs) = (ahead xs x ≡ 0) × Once xs

-- queue x is followed by y: on the path of some packet that can be admitted, y comes right after x
pub record Followed {P : Type 0} (rules : Rules P) (path_of : P → List ℕ) (x y : ℕ) : Type 0 where
  pub packet : P
  pub first : ℕ
  pub starts : rules.start packet ≡ to first
  pub next : Next x y (path_of packet)

-- each queue has room, each packet that can be admitted has a path over the queues below count that passes none twice, and no queues follow one another in a ring
pub record Routed {P : Type 0} (rules : Rules P) (count : ℕ) (path_of : P → List ℕ) : Type 0 where
  pub roomy : (x : ℕ) → 0 < rules.room x
  pub path : (p : P) (x : ℕ) → rules.start p ≡ to x → Path rules p x (path_of p)
  pub within : (p : P) (x : ℕ) → rules.start p ≡ to x → All (λ y. y < count) (path_of p)
  pub once : (p : P) (x : ℕ) → rules.start p ≡ to x → Once (path_of p)
  pub free : NoRing (Followed rules path_of)

-- the hops ahead of all packets in queues, of which the first is i
abbrev pub hops_from : {P : Type 0} → (P → List ℕ) → ℕ → Queues P → ℕ
hops_from path_of i [] = 0
hops_from path_of i (ps ∷ q) = sum_by (λ p. ahead (path_of p) i) ps + hops_from path_of (suc i) q

-- the hops ahead of all packets in the queues
abbrev pub hops : {P : Type 0} → (P → List ℕ) → Queues P → ℕ
hops path_of q = hops_from path_of 0 q

-- of a course: the packets admitted, in their order
abbrev pub entered : {P : Type 0} → List (Event P) → List P
entered [] = []
entered (refused ∷ es) = entered es
entered (admitted p ∷ es) = p ∷ entered es
entered (forwarded ∷ es) = entered es
entered (taken p ∷ es) = entered es

-- of a course: the packets taken, in their order
abbrev pub left : {P : Type 0} → List (Event P) → List P
left [] = []
left (refused ∷ es) = left es
left (admitted p ∷ es) = left es
left (forwarded ∷ es) = left es
left (taken p ∷ es) = p ∷ left es

-- of a course: how many forwards and takes were accepted
abbrev pub moves : {P : Type 0} → List (Event P) → ℕ
moves [] = 0
moves (refused ∷ es) = moves es
moves (admitted p ∷ es) = moves es
moves (forwarded ∷ es) = suc (moves es)
moves (taken p ∷ es) = suc (moves es)

-- what f has at each queue of a path, the last queue first
abbrev pub backward : {P : Type 0} → (ℕ → List P) → List ℕ → List P
backward f [] = []
backward f (x ∷ xs) = backward f xs ++ f x

-- what passes a test and waits on a path, the packet that goes first first
abbrev pub waiting : {P : Type 0} → (P → Bool) → List ℕ → Queues P → List P
waiting test xs q = backward (λ x. filter test (at q x)) xs

-- some forward or some take would be accepted
pub data Stirs {P : Type 0} (rules : Rules P) (q : Queues P) : Type 0 where
  by_forward : (x : ℕ) (q' : Queues P) → Forwards rules q x q' → Stirs rules q
  by_take : (x : ℕ) (p : P) (q' : Queues P) → Takes rules q x p q' → Stirs rules q

-- the queues are empty: no packet waits
abbrev pub Empty : {P : Type 0} → Queues P → Type 0
Empty q = (x : ℕ) → at q x ≡ []

-- a packet that can be admitted, in a queue of its path
pub record OnWay {P : Type 0} (rules : Rules P) (path_of : P → List ℕ) (x : ℕ) (p : P) : Type 0 where
  pub first : ℕ
  pub starts : rules.start p ≡ to first
  pub some_ahead : 0 < ahead (path_of p) x

-- every packet that waits is one that can be admitted, and waits in a queue of its path
abbrev pub Placed : {P : Type 0} → Rules P → (P → List ℕ) → Queues P → Type 0
Placed rules path_of q = (x : ℕ) → All (OnWay rules path_of x) (at q x)

-- what a course says of the queues that it began and ended with
pub record Law {P : Type 0} (rules : Rules P) (path_of : P → List ℕ) (q : Queues P) (events : List (Event P)) (q' : Queues P) : Type 0 where
  -- a packet waits only on its own path
  pub placed : Placed rules path_of q'
  -- while a packet waits, some forward or take would be accepted
  pub alive : (x : ℕ) (p : P) (rest : List P) → at q' x ≡ p ∷ rest → Stirs rules q'
  -- accepted forwards and takes, and the hops still ahead, are together the hops ahead before and those of the packets admitted
  pub counted : moves events + hops path_of q' ≡ hops path_of q + sum_by (λ p. length (path_of p)) (entered events)
  -- no hop is ahead exactly when the queues are empty
  pub settled : Empty q' ↔ (hops path_of q' ≡ 0)
  -- with no packet admitted, the queues are empty exactly when as many forwards and takes were accepted as hops were ahead
  pub drained : entered events ≡ [] → Empty q' ↔ (moves events ≡ hops path_of q)
  -- the packets of one path are taken in their order, and the others wait in that order
  pub ordered :
      (test : P → Bool) (xs : List ℕ) → ((p : P) (x : ℕ) → test p ≡ true → rules.start p ≡ to x → path_of p ≡ xs)
      → waiting test xs q ++ filter test (entered events) ≡ filter test (left events) ++ waiting test xs q'

-- every course keeps the law, from any queues in which each packet stands on its path
abbrev pub KeepsLaw : Type 0 → Type 0
KeepsLaw P =
    (rules : Rules P) (path_of : P → List ℕ) (q q' : Queues P) (events : List (Event P))
    → Routed rules (length q) path_of → Placed rules path_of q → Course rules q events q' → Law rules path_of q events q'
