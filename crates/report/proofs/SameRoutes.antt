-- Two readings of a file give the same nodes, cables and forwarding. Assumes nothing.
use Rattle.std.proofs.Common.{◌≡◌, ℕ, zero, suc, ◌+◌, ◌*◌, ◌<◌, ◌≤◌, Bool, true, false, cond, not, ◌&&◌, eqb, List, length, get_or, Some, None, Ok, Option, sym, refl, ap, ◌∙◌, subst, inl, inr, ⊎_elim, arith, eqb-true}
use mathlib.Core.HLevel.{is_prop→PathP}
use native.Mathlib.Bridge.{le_prop}
use Rattle.std.proofs.lemmas.Nat.{mul-add-lt}
use Rattle.std.proofs.lemmas.List.{get_or_default}
use Rattle.std.proofs.lemmas.Bool.{and_left, and_parts, cases_lt, cases_Bool, cond-false}
use Rattle.reading.specs.declared.add.Counts.{Counts}
use Rattle.rack.specs.declared.cable.Cable.{Cable}
use Rattle.reading.specs.declared.limits.Limits.{Limits}
use Rattle.rack.specs.declared.rack.Rack.{Rack}
use Rattle.rack.specs.Network.{channels, tail_end, head_end}
use Rattle.rack.specs.Racks.{nodes_of, node_count, channel_count, tail, head, Host}
use Rattle.reading.specs.Rules.{Answers}
use Rattle.rack.proofs.Facts.{head_below, host_below}
use Rattle.reading.proofs.KeptRules.{accepted_begins}
use Rattle.rack_laws.proofs.OneAnswer.{one_answer}
use Rattle.rack_laws.proofs.OneValue.{one_value}
use Rattle.routing.specs.Sources.{enters_switch, is_end, entry_of, stored_route, told, one_nearer, least, downhill_route}
use Rattle.routing.specs.Ways.{Way, Fewest}
use Rattle.routing.proofs.Tests.{entered}
use Rattle.report.specs.Reports.{LetsIn, Reads, Forwards, Gives}
use Rattle.report.proofs.SameRacks.{Same, turned, over, entering, same_count}

-- limits are one value by what they let in
pub same_limits : {most_nodes most_cables : ℕ} (a b : Limits) → LetsIn most_nodes most_cables a → LetsIn most_nodes most_cables b → a ≡ b
same_limits a b x y =
    let n : a.nodes ≡ b.nodes = x.0 ∙ sym y.0 in
    let c : a.cables ≡ b.cables = x.1 ∙ sym y.1 in
    λ i. record { nodes = n i; cables = c i; few = is_prop→PathP (λ j. (n j ≤ 128) × (c j ≤ 256)) (λ j. hlevel le_prop) a.few b.few i }

module _ {most_nodes most_cables : ℕ} {file : List ℕ} {r q : Rack} {m n : ℕ} {x y : List ℕ} (a : Reads most_nodes most_cables file r m x) (b : Reads most_nodes most_cables file q n y) where
  again : Answers a.limits file (Ok b.counts) b.nodes b.cables y
  again = subst (λ (l : Limits). Answers l file (Ok b.counts) b.nodes b.cables y) (same_limits b.limits a.limits b.lets_in a.lets_in) b.answers

  pub same_rack : Same r q
  same_rack =
      let s = accepted_begins a.limits file a.counts a.nodes a.cables x a.answers in
      let t = accepted_begins a.limits file b.counts b.nodes b.cables y again in
      record { nodes = a.all_nodes ∙ s.2 ∙ sym t.2 ∙ sym b.all_nodes; cables = a.all_cables ∙ s.3 ∙ sym t.3 ∙ sym b.all_cables }

  same_entries : m ≡ n
  same_entries =
      let same = one_answer a.limits file (Ok a.counts) (Ok b.counts) a.nodes b.nodes a.cables b.cables x y a.answers again in
      let counts : a.counts ≡ b.counts = cc in
      sym a.all_entries ∙ ap (λ (k : Counts). k.entries) counts ∙ b.all_entries

  same_places : (k : ℕ) → get_or x k 0 ≡ get_or y k 0
  same_places k = (one_value a.limits file a.counts b.counts a.nodes b.nodes a.cables b.cables x y a.answers again).2 k

  same_stored : stored_route r x ≡ stored_route q y
  same_stored =
      let e = same_rack in
      λ i c v. cond (entering (e.nodes i) (e.cables i) c && eqb (get_or (e.nodes i) v 0) 1) (entry_of (same_places (length (e.nodes i) * (head_end (e.cables i) c).node.0 + v) i)) None

-- the fewest channels are one number
fewest_le : {r : Rack} {v w c d : ℕ} → Fewest r v w c → Fewest r v w d → c ≤ d
fewest_le {d = d} x y = ⊎_elim (λ (l : d < 255). x.shortest d (y.reached l)) (λ (h : 255 ≤ d). omega (arith, x.small)) (cases_lt d 255)

-- the table holds the fewest channels from each node to each host
abbrev Told : Rack → List ℕ → Type 0
Told r table = (w v : ℕ) → w < node_count r → v < node_count r → Host r v → Fewest r v w (get_or table (node_count r * w + v) 0)

-- the least number that passes two tests which agree on the numbers asked
least_same : (p o : ℕ → Bool) (k n : ℕ) → ((d : ℕ) → d < k + n → p d ≡ o d) → least p k n ≡ least o k n
least_same p o k zero h = refl
least_same p o k (suc n) h = λ i. cond (h k (omega arith) i) (Some k) (least_same p o (k + 1) n (λ d l. h d (omega arith)) i)

-- where one of the first two tests fails, all three together do
off : (a b t : Bool) → a && b ≡ false → a && (b && t) ≡ false
off true b t e = and_left b t e
off false b t e = refl

-- two tables of one rack give one downhill source
module _ (r : Rack) (x y : List ℕ) (long : node_count r * node_count r ≤ length x) (wide : node_count r * node_count r ≤ length y) (a : Told r x) (b : Told r y) where
  told_same : (w v : ℕ) → w < node_count r → Host r v → told r x w v ≡ told r y w v
  told_same w v l host =
      let low = host_below r v host in
      let i = node_count r * w + v in
      let place = mul-add-lt w (node_count r) v (node_count r) l low in
      let m = a w v l low host in
      let n = b w v l low host in
      let same : get_or x i 0 ≡ get_or y i 0 = omega (arith, fewest_le m n, fewest_le n m) in
      get_or_default x i 255 0 (omega arith) ∙ same ∙ get_or_default y i 0 255 (omega arith)

  downhill_at : (c v : ℕ) → downhill_route r x c v ≡ downhill_route r y c v
  downhill_at c v =
      ⊎_elim
      (λ (on : enters_switch r c && is_end r v ≡ true).
      let both = and_parts (enters_switch r c) (is_end r v) on in
      let host : Host r v = eqb-true (get_or (nodes_of r) v 0) 1 both.1 in
      let far : (d : ℕ) → d < channel_count r → told r x (head r d) v ≡ told r y (head r d) v = λ d l. told_same (head r d) v (head_below r d l) host in
      let here = far c (entered r c both.0).0 in
      let nearest = least_same (one_nearer r x (head r c) v) (one_nearer r y (head r c) v) 0 (channel_count r) (λ d l. let there = far d (omega arith) in λ i. eqb (tail r d) (head r c) && eqb (there i + 1) (here i)) in
      λ i. cond (enters_switch r c && (is_end r v && not (eqb (here i) 255))) (nearest i) None)
      (λ (none : enters_switch r c && is_end r v ≡ false). cond-false _ _ _ (off (enters_switch r c) (is_end r v) _ none) ∙ sym (cond-false _ _ _ (off (enters_switch r c) (is_end r v) _ none)))
      (cases_Bool (enters_switch r c && is_end r v))

  pub one_downhill : downhill_route r x ≡ downhill_route r y
  one_downhill = λ i c v. downhill_at c v i

-- the downhill source, by nodes and cables alone
abbrev far_in : List ℕ → List ℕ → ℕ → ℕ → ℕ
far_in ns table w v = get_or table (length ns * w + v) 255

abbrev downhill_in : List ℕ → List Cable → List ℕ → ℕ → ℕ → Option ℕ
downhill_in ns cs table c v =
    let w = (head_end cs c).node.0 in
    cond (entering ns cs c && (eqb (get_or ns v 0) 1 && not (eqb (far_in ns table w v) 255)))
    (least (λ d. eqb (tail_end cs d).node.0 w && eqb (far_in ns table (head_end cs d).node.0 v + 1) (far_in ns table w v)) 0 (channels cs)) None

-- one table of two racks with the same nodes and cables
module _ {r q : Rack} (e : Same r q) where
  way_to : (v k w : ℕ) → Way r v k w → Way q v k w
  way_to v zero w x = x
  way_to v (suc k) w x =
      let c = x.0 in
      let step = over e (λ ns cs. ((c < channels cs) × ((tail_end cs c).node.0 ≡ w)) × (0 < k → get_or ns (head_end cs c).node.0 0 ≡ 2)) (x.1, x.2) in
      (c, step.0, step.1, subst (λ n. Way q v k n) (ap (λ (cs : List Cable). (head_end cs c).node.0) e.cables) (way_to v k (head r c) x.3))

  same_downhill : (table : List ℕ) → downhill_route r table ≡ downhill_route q table
  same_downhill table =
      λ i c v. downhill_in (e.nodes i) (e.cables i) table c v

-- what a table holds of one rack it holds of the other
told_to : {r q : Rack} → Same r q → (table : List ℕ) → Told r table → Told q table
told_to {r = r} {q = q} e table a w v l k host =
    let n = same_count e in
    let f = a w v (omega arith) (omega arith) (over (turned e) (λ ns cs. get_or ns v 0 ≡ 1) host) in
    subst (λ m. Fewest q v w (get_or table (m * w + v) 0)) n
    (record {
      reached = λ l. way_to e v _ w (f.reached l);
      shortest = λ k y. f.shortest k (way_to (turned e) v k w y);
      none = λ l k y. f.none l k (way_to (turned e) v k w y);
      small = f.small;
    })

-- two readings of a file forward alike
pub same_forwarding : (file : List ℕ) (r q : Rack) (f g : ℕ → ℕ → Option ℕ) → Gives file r f → Gives file q g → Same r q × (f ≡ g)
same_forwarding file r q f g a b = (e, alike a.3 b.3)
  where
    e : Same r q
    e = same_rack a.2 b.2

    entries : a.0 ≡ b.0
    entries = same_entries a.2 b.2

    alike : Forwards r a.0 a.1 f → Forwards q b.0 b.1 g → f ≡ g
    alike (inl s) (inl t) = s.1 ∙ same_stored a.2 b.2 ∙ sym t.1
    alike (inl s) (inr t) = absurd (omega (arith, s.0, t.0, entries))
    alike (inr s) (inl t) = absurd (omega (arith, s.0, t.0, entries))
    alike (inr s) (inr t) =
        let x = s.1 in
        let y = t.1 in
        let wide : node_count r * node_count r ≤ length y.0 = subst (λ n. n * n ≤ length y.0) (sym (same_count e)) y.1 in
        x.3 ∙ one_downhill r x.0 y.0 x.1 wide x.2.host (told_to (turned e) y.0 y.2.host) ∙ same_downhill e y.0 ∙ sym y.3
