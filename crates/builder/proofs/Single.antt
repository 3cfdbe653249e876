-- One outcome of building. Assumes nothing.
use Rattle.std.proofs.Common.{◌≡◌, ℕ, zero, suc, ◌+◌, ◌*◌, ◌<◌, ◌⊎◌, List, length, get_or, Ok, Err, Option, Result, sym, refl, ap, ◌∙◌, subst, ⊎_elim, arith}
use Rattle.std.proofs.lemmas.List.{ext_get_or}
use Rattle.std.proofs.lemmas.Bool.{cases_order}
use Rattle.rack.specs.declared.rack.Rack.{Rack}
use Rattle.rack.specs.Racks.{node_count}
use Rattle.rack.proofs.Facts.{host_below}
use Rattle.routing.specs.declared.pair.Pair.{Pair}
use Rattle.routing.specs.Paths.{PairOf}
use Rattle.routing.proofs.Determined.{same_nodes}
use Rattle.builder.specs.declared.fault.BuildFault.{BuildFault}
use Rattle.builder.specs.declared.fault.BuildFault.TheVariants.{Lanes, Tables as Short, Walk, Lane, Level, Memory}
use Rattle.builder.specs.Method.{PathOf, Middle, entry_place, Lowest, Claimed, Tables, tables, blank, Placed, PairBuilt, Taken, Receivers, Senders, Built}
use Rattle.routing.specs.Plans.{OneToEight}
use Rattle.builder.specs.Outcomes.{LongEnough, needed, Lacks, ReceiverLacks, FirstLacks, Outcome}
use Rattle.builder.specs.Laws.{OneOutcome}
use Rattle.builder.proofs.Pathed.{same_path}
use Rattle.builder.proofs.Rising.{at_middle}
use Rattle.builder.proofs.Stopping.{one_fault, no_fault}
use Rattle.builder.proofs.Taking.{taken_on_way, row_on_way}

same_tables : (a b x y : List ℕ) → a ≡ x → b ≡ y → tables a b ≡ tables x y
same_tables a b x y p q = λ i. tables (p i) (q i)

-- one of two numbers is below the other, or they are the same
same_unless : (m n : ℕ) → (m < n → ⊥) → (n < m → ⊥) → m ≡ n
same_unless m n a b = ⊎_elim (λ (e : m ≡ n). e) (λ (d : (m < n) ⊎ (n < m)). ⊎_elim (λ (l : m < n). absurd (a l)) (λ (l : n < m). absurd (b l)) d) (cases_order m n)

one_level : (r : Rack) (lanes path : List ℕ) (s t : ℕ) → Lowest r lanes path s → Lowest r lanes path t → s ≡ t
one_level r lanes path s t a b = same_unless s t (λ l. b.least s l a.fits) (λ l. a.least t l b.fits)

one_claim : (r : Rack) (path : List ℕ) (s : ℕ) (was x y : List ℕ) → Claimed r path s was x → Claimed r path s was y → x ≡ y
one_claim r path s was x y a b =
    ext_get_or 0 x y (a.long ∙ sym b.long) (λ k _.
    ⊎_elim
    (λ (f : (i : ℕ) × Middle path i × (k ≡ entry_place r path s i)). ap (λ n. get_or x n 0) f.2 ∙ a.given f.0 f.1 ∙ sym (b.given f.0 f.1) ∙ sym (ap (λ n. get_or y n 0) f.2))
    (λ (f : (i : ℕ) → Middle path i → k ≡ entry_place r path s i → ⊥). a.kept k f ∙ sym (b.kept k f))
    (at_middle r path s k))

one_placed : (r : Rack) (path : List ℕ) (place s t : ℕ) (was x y : Tables) → Placed r path place s was x → Placed r path place t was y → x ≡ y
one_placed r path place s t was x y a b =
    let same : t ≡ s = one_level r was.lanes path t s b.lowest a.lowest in
    let c : Placed r path place s was y = subst (λ n. Placed r path place n was y) same b in
    same_tables x.lanes x.levels y.lanes y.levels (one_claim r path s was.lanes x.lanes y.lanes a.claimed c.claimed) (a.told ∙ sym c.told)

module _ (r : Rack) (route : ℕ → ℕ → Option ℕ) (count : ℕ) where
  -- each step gives one pair of tables
  one_built : (u v : ℕ) (was x y : Tables) → PairOf r u v → PairBuilt r route count u v was x → PairBuilt r route count u v was y → x ≡ y
  one_built u v was x y pair a b =
      let same : b.path ≡ a.path = same_path r route u v pair b.path a.path b.walked a.walked in
      one_placed r a.path (node_count r * u + v) a.level b.level was x y a.placed (subst (λ p. Placed r p (node_count r * u + v) b.level was y) same b.placed)

  one_taken : (u v : ℕ) (was x y : Tables) → Taken r route count u v was x → Taken r route count u v was y → x ≡ y
  one_taken u v was x y a b =
      ⊎_elim
      (λ (f : PairOf r u v × PairBuilt r route count u v was x).
      ⊎_elim
      (λ (h : PairOf r u v × PairBuilt r route count u v was y). one_built u v was x y f.0 f.1 h.1)
      (λ (h : (PairOf r u v → ⊥) × (y ≡ was)). absurd (h.0 f.0))
      b)
      (λ (f : (PairOf r u v → ⊥) × (x ≡ was)).
      ⊎_elim
      (λ (h : PairOf r u v × PairBuilt r route count u v was y). absurd (f.0 h.0))
      (λ (h : (PairOf r u v → ⊥) × (y ≡ was)). f.1 ∙ sym h.1)
      b)
      a

  one_row : (u n : ℕ) (was x y : Tables) → Receivers r route count u n was x → Receivers r route count u n was y → x ≡ y
  one_row u zero was x y a b = a ∙ sym b
  one_row u (suc n) was x y a b =
      let same : b.0 ≡ a.0 = one_row u n was b.0 a.0 b.1 a.1 in
      one_taken u n a.0 x y a.2 (subst (λ m. Taken r route count u n m y) same b.2)

  pub one_all : (n : ℕ) (was x y : Tables) → Senders r route count n was x → Senders r route count n was y → x ≡ y
  one_all zero was x y a b = a ∙ sym b
  one_all (suc n) was x y a b =
      let same : b.0 ≡ a.0 = one_all n was b.0 a.0 b.1 a.1 in
      one_row n (node_count r) a.0 x y a.2 (subst (λ m. Receivers r route count n (node_count r) m y) same b.2)

  -- a pair lacks one thing at most, and nothing where it is built
  module _ (p : Pair) (pair : PairOf r p.sender.0 p.receiver.0) (was : Tables) where
    abbrev Path : List ℕ → Type 0
    Path path = PathOf r route p.sender.0 p.receiver.0 path

    one_length : (x y : List ℕ) → Path x → Path y → length x ≡ length y
    one_length x y a b = ap length (same_path r route p.sender.0 p.receiver.0 pair x y a b)

    pub one_lack : (e f : BuildFault) → Lacks r route count p was e → Lacks r route count p was f → e ≡ f
    one_lack Lanes f a b = absurd a
    one_lack Short f a b = absurd a
    one_lack Memory f a b = absurd a
    one_lack (Walk e) Lanes a b = absurd b
    one_lack (Walk e) Short a b = absurd b
    one_lack (Walk e) (Walk f) a b = ap Walk (one_fault r route p e f a b)
    one_lack (Walk e) (Lane q) a b = absurd (no_fault r route p pair b.1.0 e b.1.1 a)
    one_lack (Walk e) (Level q) a b = absurd (no_fault r route p pair b.1.0 e b.1.1 a)
    one_lack (Walk e) Memory a b = absurd b
    one_lack (Lane q) Lanes a b = absurd b
    one_lack (Lane q) Short a b = absurd b
    one_lack (Lane q) (Walk f) a b = absurd (no_fault r route p pair a.1.0 f a.1.1 b)
    one_lack (Lane q) (Lane o) a b = ap Lane (a.0 ∙ sym b.0)
    one_lack (Lane q) (Level o) a b = absurd (omega (arith, one_length a.1.0 b.1.0 a.1.1 b.1.1, a.1.2, b.1.2))
    one_lack (Lane q) Memory a b = absurd b
    one_lack (Level q) Lanes a b = absurd b
    one_lack (Level q) Short a b = absurd b
    one_lack (Level q) (Walk f) a b = absurd (no_fault r route p pair a.1.0 f a.1.1 b)
    one_lack (Level q) (Lane o) a b = absurd (omega (arith, one_length a.1.0 b.1.0 a.1.1 b.1.1, a.1.2, b.1.2))
    one_lack (Level q) (Level o) a b = ap Level (a.0 ∙ sym b.0)
    one_lack (Level q) Memory a b = absurd b

    pub lacks_none : (now : Tables) (f : BuildFault) → PairBuilt r route count p.sender.0 p.receiver.0 was now → Lacks r route count p was f → ⊥
    lacks_none now Lanes a b = absurd b
    lacks_none now Short a b = absurd b
    lacks_none now (Walk f) a b = no_fault r route p pair a.path f a.walked b
    lacks_none now (Lane q) a b = omega (arith, one_length a.path b.1.0 a.walked b.1.1, a.short, b.1.2)
    lacks_none now (Level q) a b =
        let same : a.path ≡ b.1.0 = same_path r route p.sender.0 p.receiver.0 pair a.path b.1.0 a.walked b.1.1 in
        let low : Lowest r was.lanes b.1.0 a.level = subst (λ x. Lowest r was.lanes x a.level) same a.placed.lowest in
        b.1.3 a.level low.level low.fits
    lacks_none now Memory a b = absurd b

  -- a pair of the sender that lacks something is not passed
  pair_there : (u : ℕ) (was : Tables) (f : BuildFault) (a : ReceiverLacks r route count u was f) → PairOf r a.pair.sender.0 a.pair.receiver.0
  pair_there u was f a = subst (λ k. PairOf r k a.pair.receiver.0) (sym a.sender) a.hosts

  not_passed : (u n : ℕ) (was now : Tables) (f : BuildFault) (a : ReceiverLacks r route count u was f) → a.pair.receiver.0 < n → Receivers r route count u n was now → ⊥
  not_passed u n was now f a l t =
      let p = a.pair in
      let w = taken_on_way r route count u n p.receiver.0 was now l t in
      let same : w.0 ≡ a.here = one_row u p.receiver.0 was w.0 a.here w.1.1.0 a.before in
      ⊎_elim
      (λ (h : PairOf r u p.receiver.0 × PairBuilt r route count u p.receiver.0 w.0 w.1.0).
      lacks_none p (pair_there u was f a) a.here w.1.0 f (subst (λ k. PairBuilt r route count k p.receiver.0 a.here w.1.0) (sym a.sender) (subst (λ m. PairBuilt r route count u p.receiver.0 m w.1.0) same h.1)) a.lacks)
      (λ (h : (PairOf r u p.receiver.0 → ⊥) × (w.1.0 ≡ w.0)). h.0 a.hosts)
      w.1.1.1

  one_receiver : (u : ℕ) (was : Tables) (e f : BuildFault) → ReceiverLacks r route count u was e → ReceiverLacks r route count u was f → e ≡ f
  one_receiver u was e f a b =
      let x = a.pair.receiver.0 in
      let y = b.pair.receiver.0 in
      let same : y ≡ x = same_unless y x (λ l. not_passed u x was a.here f b l a.before) (λ l. not_passed u y was b.here e a l b.before) in
      let here : b.here ≡ a.here = one_row u x was b.here a.here (subst (λ k. Receivers r route count u k was b.here) same b.before) a.before in
      let pair : b.pair ≡ a.pair = same_nodes b.pair a.pair (b.sender ∙ sym a.sender) same in
      one_lack a.pair (pair_there u was e a) a.here e f a.lacks (subst (λ q. Lacks r route count q a.here f) pair (subst (λ m. Lacks r route count b.pair m f) here b.lacks))

  -- so neither is its sender
  sender_not_passed : (n : ℕ) (now : Tables) (f : BuildFault) (a : FirstLacks r route count f) → a.sender < n → Senders r route count n (blank r) now → ⊥
  sender_not_passed n now f a l t =
      let w = row_on_way r route count n a.sender (blank r) now l t in
      let same : w.0 ≡ a.there = one_all a.sender (blank r) w.0 a.there w.1.1.0 a.before in
      not_passed a.sender (node_count r) a.there w.1.0 f a.row (host_below r a.row.pair.receiver.0 a.row.hosts.1) (subst (λ m. Receivers r route count a.sender (node_count r) m w.1.0) same w.1.1.1)

  pub one_first : (e f : BuildFault) → FirstLacks r route count e → FirstLacks r route count f → e ≡ f
  one_first e f a b =
      let same : b.sender ≡ a.sender = same_unless b.sender a.sender (λ l. sender_not_passed a.sender a.there f b l a.before) (λ l. sender_not_passed b.sender b.there e a l b.before) in
      let there : b.there ≡ a.there = one_all a.sender (blank r) b.there a.there (subst (λ k. Senders r route count k (blank r) b.there) same b.before) a.before in
      one_receiver a.sender a.there e f a.row (subst (λ m. ReceiverLacks r route count a.sender m f) there (subst (λ k. ReceiverLacks r route count k b.there f) same b.row))

  pub built_lacks : (now : Tables) (f : BuildFault) → Built r route count now → FirstLacks r route count f → ⊥
  built_lacks now f t a = sender_not_passed (node_count r) now f a (host_below r a.sender a.row.hosts.0) t

  -- what an answer says of the tables, in three kinds
  data Kind (was now : Tables) (a : Result (Unit {0}) BuildFault) : Type 0 where
    range : a ≡ Err Lanes → (OneToEight count → ⊥) → now ≡ was → Kind was now a
    short : a ≡ Err Short → OneToEight count → (LongEnough r was → ⊥) → now ≡ was → Kind was now a
    fault : (f : BuildFault) → a ≡ Err f → OneToEight count → LongEnough r was → needed r now ≡ blank r → FirstLacks r route count f → Kind was now a
    built : a ≡ Ok tt → OneToEight count → LongEnough r was → Built r route count (needed r now) → Kind was now a

  kind : (was now : Tables) (a : Result (Unit {0}) BuildFault) → Outcome r route count was now a → (a ≡ Err Memory → ⊥) → Kind was now a
  kind was now (Ok x) o m = built refl o.0 o.1 o.2
  kind was now (Err Lanes) o m = range refl o.0 o.1
  kind was now (Err Short) o m = short refl o.0 o.1 o.2
  kind was now (Err (Walk f)) o m = fault (Walk f) refl o.0 o.1 o.2 o.3
  kind was now (Err (Lane p)) o m = fault (Lane p) refl o.0 o.1 o.2 o.3
  kind was now (Err (Level p)) o m = fault (Level p) refl o.0 o.1 o.2 o.3
  kind was now (Err Memory) o m = absurd (m refl)

  one_kind : (was x y : Tables) (a b : Result (Unit {0}) BuildFault) → Kind was x a → Kind was y b → (a ≡ b) × (needed r x ≡ needed r y)
  one_kind was x y a b (range e n s) (range e' n' s') = (e ∙ sym e', ap (needed r) (s ∙ sym s'))
  one_kind was x y a b (range e n s) (short e' i n' s') = absurd (n i)
  one_kind was x y a b (range e n s) (fault f e' i l z h) = absurd (n i)
  one_kind was x y a b (range e n s) (built e' i l h) = absurd (n i)
  one_kind was x y a b (short e i n s) (range e' n' s') = absurd (n' i)
  one_kind was x y a b (short e i n s) (short e' i' n' s') = (e ∙ sym e', ap (needed r) (s ∙ sym s'))
  one_kind was x y a b (short e i n s) (fault f e' i' l z h) = absurd (n l)
  one_kind was x y a b (short e i n s) (built e' i' l h) = absurd (n l)
  one_kind was x y a b (fault f e i l z h) (range e' n' s') = absurd (n' i)
  one_kind was x y a b (fault f e i l z h) (short e' i' n' s') = absurd (n' l)
  one_kind was x y a b (fault f e i l z h) (fault f' e' i' l' z' h') = (e ∙ ap Err (one_first f f' h h') ∙ sym e', z ∙ sym z')
  one_kind was x y a b (fault f e i l z h) (built e' i' l' h') = absurd (built_lacks (needed r y) f h' h)
  one_kind was x y a b (built e i l h) (range e' n' s') = absurd (n' i)
  one_kind was x y a b (built e i l h) (short e' i' n' s') = absurd (n' l)
  one_kind was x y a b (built e i l h) (fault f e' i' l' z h') = absurd (built_lacks (needed r x) f h h')
  one_kind was x y a b (built e i l h) (built e' i' l' h') = (e ∙ sym e', one_all (node_count r) (blank r) (needed r x) (needed r y) h h')

pub one_outcome : OneOutcome
one_outcome r route count was one other a b x y m n = one_kind r route count was one other a b (kind r route count was one a x m) (kind r route count was other b y n)
