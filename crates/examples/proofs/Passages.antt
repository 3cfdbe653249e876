-- One packet through the fabric. Assumes nothing.
use Rattle.std.proofs.Common.{◌≡◌, ℕ, ◌+◌, ◌*◌, ◌/◌, ◌<◌, ◌≤◌, true, List, [], ◌∷◌, ◌++◌, length, Some, Ok, Err, ◌≢◌, lit≤, sym, refl, ap, ◌∙◌, subst, ⊎_elim, arith, get_or-set_same, get_or-set_other}
use Rattle.std.specs.Prelude.{slice_set}
use Rattle.std.proofs.lemmas.Bool.{cases_eq}
use Rattle.std.proofs.lemmas.List.{length-set}
use Rattle.rack.specs.declared.rack.Rack.{Rack}
use Rattle.rack.specs.declared.numbers.UpTo.{UpTo}
use Rattle.rack.specs.Network.{tail_end, head_end}
use Rattle.rack.specs.Racks.{node_count, Leaving}
use Rattle.example_racks.specs.Tables.{triangle_cables}
use Rattle.example_racks.specs.declared.TheConstants.{CLOCKWISE}
use Rattle.routing.specs.Paths.{hop, PairOf}
use Rattle.checking.specs.Plans.{level_at}
use Rattle.courses.specs.Queues.{Queues, at, push}
use Rattle.builder.specs.Method.{Tables, tables}
use Rattle.builder.specs.Outcomes.{needed}
use Rattle.fabric.specs.declared.packet.Packet.{Packet}
use Rattle.fabric.specs.declared.call.Call.{Call}
use Rattle.fabric.specs.declared.call.Call.TheVariants.{Admit, Forward, Take}
use Rattle.fabric.specs.declared.call.Done.TheVariants.{Admitted, Forwarded, Taken}
use Rattle.fabric.specs.declared.fault.FabricFault.TheVariants.{Full}
use Rattle.fabric.specs.Packets.{moved, delivery}
use Rattle.fabric.specs.Calls.{Setup, setup, Ready, GoesOn, Answer, Acts}
use Rattle.fabric.specs.Courses.{Performs, done, then}
use Rattle.fabric.proofs.Determined.{one_answer}
use Rattle.examples.specs.Racks.{Triangle, pair_of, stored_rows}
use Rattle.examples.specs.Triangles.{two_lane_tables}
use Rattle.examples.specs.Passages.{lane_0, lane_1, Passage}
use Rattle.examples.proofs.Nets.{IsNet}
use Rattle.examples.proofs.Tabled.{level_is, long}
use Rattle.examples.proofs.Triangles.{laid, pair02, parted, is_parted, written, pair_in, channels12}

-- a course of one call and more, and one of none
begins : {s : Setup} {qs after : Queues Packet} {c : Call} {cs : List Call} {as' : List Answer} → Performs s qs (c ∷ cs) as' after →
    (a : Answer) × (rest : List Answer) × (mid : Queues Packet) × (as' ≡ a ∷ rest) × Acts s qs c a mid × Performs s mid cs rest after
begins (then {qs' = mid} {a = a} {as' = rest} act more) = (a, rest, mid, refl, act, more)

stops : {s : Setup} {qs after : Queues Packet} {as' : List Answer} → Performs s qs [] as' after → (as' ≡ []) × (after ≡ qs)
stops done = (refl, refl)

-- one packet waits, in queue x, and nothing else
record Alone (qs : Queues Packet) (x : ℕ) (p : Packet) : Type 0 where
  long : 96 ≤ length qs
  here : at qs x ≡ p ∷ []
  others : (y : ℕ) → y < 96 → y ≢ x → at qs y ≡ []

-- nothing waits
record Idle (qs : Queues Packet) : Type 0 where
  long : 96 ≤ length qs
  none : (y : ℕ) → y < 96 → at qs y ≡ []

alone_pushed : (qs : Queues Packet) (x : ℕ) (p : Packet) → Idle qs → x < 96 → Alone (push qs x p) x p
alone_pushed qs x p idle l =
    let old = idle.long in
    record {
      long = (let e = length-set qs x (at qs x ++ (p ∷ [])) in omega arith);
      here = get_or-set_same qs x (at qs x ++ (p ∷ [])) [] (omega arith) ∙ ap (λ q. q ++ (p ∷ [])) (idle.none x l);
      others = λ y low ne. get_or-set_other qs x y (at qs x ++ (p ∷ [])) [] ne ∙ idle.none y low;
    }

idle_emptied : (qs : Queues Packet) (x : ℕ) (p : Packet) → Alone qs x p → x < 96 → Idle (slice_set qs x [])
idle_emptied qs x p alone l =
    let old = alone.long in
    record {
      long = (let e = length-set {A = List Packet} qs x [] in omega arith);
      none = λ y low.
          ⊎_elim
          (λ (e : y ≡ x). ap (λ y. at (slice_set qs x []) y) e ∙ get_or-set_same qs x [] [] (omega arith))
          (λ (ne : y ≡ x → ⊥). get_or-set_other qs x y [] [] ne ∙ alone.others y low ne)
          (cases_eq y x);
    }

-- the packet as it comes in
abbrev packet : Packet
packet = record { pair = pair_of 0 2; level = record { number = 0; within = lit≤ tt }; hop = 0; tag = 9 }

module _ (r : Rack) (lanes levels : List ℕ) (t : Triangle r) (e : needed r (tables lanes levels) ≡ two_lane_tables r) where
  abbrev plan : Setup
  plan = setup (stored_rows r CLOCKWISE lanes) levels 2 1

  is : IsNet (stored_rows r CLOCKWISE lanes) 0 parted
  is = is_parted r lanes levels t e

  ready : (qs : Queues Packet) → 96 ≤ length qs → Ready plan qs
  ready qs l =
      let count = channels12 r t in
      ((omega arith, omega arith), (long (node_count r * node_count r) levels [] (ap (λ (x : Tables). x.levels) e), omega arith))

  level : (u v : ℕ) → PairOf r u v → level_at r levels u v ≡ 0
  level u v pair = level_is r (laid r t) lanes levels written [] e refl u v pair

  leaves : (u : ℕ) → (tail_end triangle_cables (2 * u)).node.0 ≡ u → 2 * u < 12 → Leaving r u (2 * u)
  leaves u at_u low = ((let count = channels12 r t in omega arith), ap (λ xs. (tail_end xs (2 * u)).node.0) t.1 ∙ at_u)

  pair01 : PairOf r 0 1
  pair01 = pair_in r t 0 1 refl refl (omega arith)

  admitted : (qs mid : Queues Packet) (a : Answer) → Idle qs → Acts plan qs (Admit (pair_of 0 2) 9) a mid → (a ≡ Ok Admitted) × Alone mid 0 packet
  admitted qs mid a idle act =
      let empty_queue = idle.none 0 (omega arith) in
      let expected : Acts plan qs (Admit (pair_of 0 2) 9) (Ok Admitted) (push qs 0 packet) = record {
        ready = ready qs idle.long;
        pair = pair02 r t;
        out = 0;
        leaves = leaves 0 refl (omega arith);
        fits = (let z : length (at qs 0) ≡ 0 = ap length empty_queue in omega arith);
        packet = packet;
        its_pair = refl;
        its_level = sym (level 0 2 (pair02 r t));
        its_hop = refl;
        its_tag = refl;
        pushed = refl;
      } in
      let same = one_answer plan qs mid (push qs 0 packet) (Admit (pair_of 0 2) 9) a (Ok Admitted) act expected in
      (same.0, subst (λ q. Alone q 0 packet) (sym same.1) (alone_pushed qs 0 packet idle (omega arith)))

  full : (qs mid : Queues Packet) (a : Answer) (tag : ℕ) → Alone qs 0 packet → Acts plan qs (Admit (pair_of 0 1) tag) a mid → (a ≡ Err (Full (pair_of 0 1) 0)) × Alone mid 0 packet
  full qs mid a tag alone act =
      let one : length (at qs 0) ≡ 1 = ap length alone.here in
      let zero_level = level 0 1 pair01 in
      let expected : Acts plan qs (Admit (pair_of 0 1) tag) (Err (Full (pair_of 0 1) 0)) qs =
      (refl, (ready qs alone.long, refl, refl, pair01, omega arith, (0, leaves 0 refl (omega arith), omega arith))) in
      let same = one_answer plan qs mid qs (Admit (pair_of 0 1) tag) a (Err (Full (pair_of 0 1) 0)) act expected in
      (same.0, subst (λ q. Alone q 0 packet) (sym same.1) alone)

  -- the packet goes on from queue x to lane q of channel d
  gone_on : (qs mid : Queues Packet) (a : Answer) (x d : ℕ) (q : UpTo 7) (p : Packet) → Alone qs x p → x < 96 → p.level.number ≡ 0 → q.number < 2 → 8 * d + q.number < 96 → 8 * d + q.number ≢ x →
      parted.enters (x / 8) ≡ true → parted.next (x / 8) p.pair.receiver.0 ≡ Some d → parted.turning (x / 8) d ≡ true → parted.lane (x / 8) d ≡ q.number →
      Acts plan qs (Forward (record { 0 = x })) a mid → (a ≡ Ok (Forwarded (record { 0 = d }) q)) × Alone mid (8 * d + q.number) (moved p)
  gone_on qs mid a x d q p alone low flat few there ne enters next turning lane act =
      let count = channels12 r t in
      let h = hop d q.number in
      let y = 8 * d + q.number in
      let goes : GoesOn plan x p h = (
        is.enters (x / 8) ∙ enters,
        is.next (x / 8) p.pair.receiver.0 ∙ next,
        is.turning (x / 8) d ∙ turning,
        sym (ap ((stored_rows r CLOCKWISE lanes).lane (x / 8) d) flat ∙ is.lane (x / 8) d turning ∙ lane),
        few,
      ) in
      let free : length (at qs y) ≡ 0 = ap length (alone.others y there ne) in
      let after = push (slice_set qs x []) y (moved p) in
      let expected : Acts plan qs (Forward (record { 0 = x })) (Ok (Forwarded (record { 0 = d }) q)) after = record {
        packet = p;
        rest = [];
        can = record { first = (ready qs alone.long, omega arith, alone.here); goes = goes; fits = omega arith };
        pushed = refl;
      } in
      let same = one_answer plan qs mid after (Forward (record { 0 = x })) a (Ok (Forwarded (record { 0 = d }) q)) act expected in
      (same.0, subst (λ z. Alone z y (moved p)) (sym same.1) (alone_pushed (slice_set qs x []) y (moved p) (idle_emptied qs x p alone low) there))

  taken : (qs mid : Queues Packet) (a : Answer) (p : Packet) → Alone qs 40 p → p.pair.receiver.0 ≡ 2 → Acts plan qs (Take (record { 0 = 40 })) a mid → (a ≡ Ok (Taken (delivery p))) × Idle mid
  taken qs mid a p alone home act =
      let count = channels12 r t in
      let after = slice_set qs 40 [] in
      let expected : Acts plan qs (Take (record { 0 = 40 })) (Ok (Taken (delivery p))) after = record {
        packet = p;
        rest = [];
        can = record { first = (ready qs alone.long, omega arith, alone.here); home = ap (λ xs. (head_end xs 5).node.0) t.1 ∙ sym home };
        told = refl;
        left = refl;
      } in
      let same = one_answer plan qs mid after (Take (record { 0 = 40 })) a (Ok (Taken (delivery p))) act expected in
      (same.0, subst Idle (sym same.1) (idle_emptied qs 40 p alone (omega arith)))

pub one_passage : Passage
one_passage r lanes levels before after tag answers t e room none course =
    let count = channels12 r t in
    let idle : Idle before = record { long = omega arith; none = λ y l. none y (omega arith) } in
    let c1 = begins course in
    let s1 = admitted r lanes levels t e before c1.2 c1.0 idle c1.4 in
    let c2 = begins c1.5 in
    let s2 = full r lanes levels t e c1.2 c2.2 c2.0 tag s1.1 c2.4 in
    let c3 = begins c2.5 in
    let s3 = gone_on r lanes levels t e c2.2 c3.2 c3.0 0 6 lane_0 packet s2.1 (omega arith) refl (omega arith) (omega arith) (omega arith) refl refl refl refl c3.4 in
    let c4 = begins c3.5 in
    let s4 = gone_on r lanes levels t e c3.2 c4.2 c4.0 48 8 lane_1 (moved packet) s3.1 (omega arith) refl (omega arith) (omega arith) (omega arith) refl refl refl refl c4.4 in
    let c5 = begins c4.5 in
    let s5 = gone_on r lanes levels t e c4.2 c5.2 c5.0 65 5 lane_0 (moved (moved packet)) s4.1 (omega arith) refl (omega arith) (omega arith) (omega arith) refl refl refl refl c5.4 in
    let c6 = begins c5.5 in
    let s6 = taken r lanes levels t e c5.2 c6.2 c6.0 (moved (moved (moved packet))) s5.1 refl c6.4 in
    let end = stops c6.5 in (
      c1.3 ∙ (λ i. s1.0 i ∷ (c2.3 ∙ (λ i. s2.0 i ∷ (c3.3 ∙ (λ i. s3.0 i ∷ (c4.3 ∙ (λ i. s4.0 i ∷ (c5.3 ∙ (λ i. s5.0 i ∷ (c6.3 ∙ (λ i. s6.0 i ∷ end.0 i)) i)) i)) i)) i)) i),
      λ x l. ap (λ q. at q x) end.1 ∙ s6.1.none x (omega arith),
    )
