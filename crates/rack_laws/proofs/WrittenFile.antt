-- Reading the file written out from tables that keep the rules. Assumes nothing.
use Rattle.std.proofs.Common.{◌≡◌, ℕ, zero, suc, ◌+◌, ◌-◌, ◌*◌, ◌/◌, ◌<◌, ◌≤◌, List, [], ◌∷◌, ◌++◌, length, get_or, take, drop, Some, Ok, Option, Result, sym, refl, ap, ◌∙◌, subst, inl, inr, ⊎_elim, arith, rules, below_more, add-zero, add-one}
use Rattle.std.specs.Prelude.{All}
use Rattle.std.proofs.lemmas.List.Elements.{All-from_recursion, All-nil, All-same, All-from_get_or, All-append}
use Rattle.std.proofs.lemmas.List.{append-nil, append_assoc, length-append, length-take, get_or-take, take_more, take_all, get_or_past}
use Rattle.std.proofs.Math.Seq.{drop-append_seam, take-append_seam}
use Rattle.std.proofs.lemmas.Bool.Decides.{nat_tests}
use Rattle.std.proofs.lemmas.Bool.{cases_eq}
use Rattle.reading.specs.declared.add.Counts.{Counts}
use Rattle.rack.specs.declared.cable.Cable.{Cable}
use Rattle.rack.specs.declared.cable.End.{End}
use Rattle.reading.specs.declared.fault.FileFault.{FileFault}
use Rattle.reading.specs.declared.limits.Limits.{Limits}
use Rattle.rack.specs.declared.kind.Kind.{Kind}
use Rattle.rack.specs.declared.kind.Kind.TheVariants.{Host, Switch}
use Rattle.reading.specs.declared.record.Record.{Record}
use Rattle.reading.specs.declared.record.Record.TheVariants.{Node, Joins}
use Rattle.reading.specs.Format.{word, decoded, said}
use Rattle.rack.specs.Network.{none, Port, EndsAt, FreeEnd, JoinsPorts, Apart, KeepsRules}
use Rattle.rack.specs.Kinds.{code}
use Rattle.reading.specs.Rules.{Described, Kept, asked, grown, described, Fine, Shown, Answers, Alone}
use Rattle.rack_laws.specs.Written.{high, low, node_record, node_records, cable_record, cable_records, written, counted}
use Rattle.rack_laws.specs.Files.{Gives, FilesGiveRacks}
use Rattle.rack_laws.proofs.HostCables.{by_port}
use Rattle.rack_laws.proofs.OneAnswer.{one_answer}
use Rattle.rack_laws.proofs.OneValue.{leaves_once, one_value}
use Rattle.reading.proofs.OneMore.{described_more}
use Rattle.reading.proofs.KeptRules.{accepted_begins, accepted_keeps}

-- record i of a file, of which i records stand before it, says what its bytes say
said_at : (before bytes after : List ℕ) (i : ℕ) → length before ≡ 8 * i → length bytes ≡ 8 → said (before ++ (bytes ++ after)) i ≡ decoded bytes
said_at before bytes after i at eight =
    let f = before ++ (bytes ++ after) in
    let width : 8 * i + 8 - 8 * i ≡ length bytes = omega arith in
    let gone : drop (8 * i) f ≡ bytes ++ after = ap (λ n. drop n f) (sym at) ∙ drop-append_seam before (bytes ++ after) in
    ap decoded (ap (take (8 * i + 8 - 8 * i)) gone ∙ ap (λ n. take n (bytes ++ after)) width ∙ take-append_seam bytes after)

abbrev Byte : ℕ → Type 0
Byte b = b < 256

-- the records of a list, of 8 bytes each, one behind another, the first of which has number n
record Rows {X : Type 0} (bytes : ℕ → X → List ℕ) (rows : ℕ → List X → List ℕ) : Type 0 where
  over : (n : ℕ) → rows n [] ≡ []
  further : (n : ℕ) (x : X) (xs : List X) → rows n (x ∷ xs) ≡ bytes n x ++ rows (n + 1) xs
  eight : (n : ℕ) (x : X) → length (bytes n x) ≡ 8

node_rows : Rows node_record node_records
node_rows = record { over = λ n. refl; further = λ n x xs. refl; eight = λ n x. refl }

cable_rows : Rows (λ _. cable_record) (λ _. cable_records)
cable_rows = record { over = λ n. refl; further = λ n x xs. refl; eight = λ n x. refl }

module _ {X : Type 0} (bytes : ℕ → X → List ℕ) (rows : ℕ → List X → List ℕ) (are : Rows bytes rows) where
  rows_length : (n : ℕ) (xs : List X) → length (rows n xs) ≡ 8 * length xs
  rows_length n [] = ap length (are.over n)
  rows_length n (x ∷ xs) = omega (arith, ap length (are.further n x xs), length-append (bytes n x) (rows (n + 1) xs), are.eight n x, rows_length (n + 1) xs)

  -- where the records stand in a file, each says what its bytes say
  rows_said :
      (f before after : List ℕ) (n m k : ℕ) (xs : List X) (d : X) → f ≡ before ++ (rows n xs ++ after) → length before ≡ 8 * n → m ≡ n + k → k < length xs →
      said f m ≡ decoded (bytes m (get_or xs k d))
  rows_said f before after n m k [] d is at number l = absurd (omega arith)
  rows_said f before after n m zero (x ∷ xs) d is at number l =
      let here : n ≡ m = omega arith in
      let is' : f ≡ before ++ (bytes n x ++ (rows (n + 1) xs ++ after)) = is ∙ simp (are.further, append_assoc) in
      subst (λ i. said f i ≡ decoded (bytes i x)) here (ap (λ g. said g n) is' ∙ said_at before (bytes n x) (rows (n + 1) xs ++ after) n at (are.eight n x))
  rows_said f before after n m (suc k) (x ∷ xs) d is at number l =
      let is' : f ≡ (before ++ bytes n x) ++ (rows (n + 1) xs ++ after) = is ∙ simp (are.further, append_assoc) in
      rows_said f (before ++ bytes n x) after (n + 1) m k xs d is' (omega (arith, length-append before (bytes n x), are.eight n x)) (omega arith) (omega arith)

  rows_bytes : (n : ℕ) (xs : List X) → ((k : ℕ) (d : X) → k < length xs → All Byte (bytes (n + k) (get_or xs k d))) → All Byte (rows n xs)
  rows_bytes n [] each = All-same Byte (rows n []) [] (are.over n) (All-nil Byte)
  rows_bytes n (x ∷ xs) each =
      let here : All Byte (bytes n x) = subst (λ m. All Byte (bytes m x)) (add-zero n) (each 0 x (omega arith)) in
      let later : All Byte (rows (n + 1) xs) = rows_bytes (n + 1) xs (λ k d l. let same : n + suc k ≡ n + 1 + k = omega arith in subst (λ m. All Byte (bytes m (get_or xs k d))) same (each (suc k) d (omega arith))) in
      All-same Byte (rows n (x ∷ xs)) (bytes n x ++ rows (n + 1) xs) (are.further n x xs) (All-append Byte (bytes n x) (rows (n + 1) xs) here later)

two_bytes : (n : ℕ) → word (high n) (low n) ≡ n
two_bytes n = omega arith

-- what the record of a node says
abbrev SaysNode : ℕ → ℕ → Type 0
SaysNode v kind = (κ : Kind) × (code κ ≡ kind) × (decoded (node_record v kind) ≡ Some (Node κ (record { 0 = v })))

node_says : (v kind : ℕ) → (1 ≤ kind) × (kind ≤ 2) → SaysNode v kind
node_says v kind known =
    ⊎_elim
    (λ (e : kind ≡ 1). subst (SaysNode v) (sym e) (Host, refl, λ i. Some (Node Host (record { 0 = two_bytes v i }))))
    (λ (off : kind ≡ 1 → ⊥). let e : 2 ≡ kind = omega arith in subst (SaysNode v) e (Switch, refl, λ i. Some (Node Switch (record { 0 = two_bytes v i }))))
    (cases_eq kind 1)

-- what the record of a cable says
cable_says : (c : Cable) → decoded (cable_record c) ≡ Some (Joins c)
cable_says c = λ i. Some (Joins (record {
  first = record { node = record { 0 = two_bytes c.first.node.0 i }; port = c.first.port };
  second = record { node = record { 0 = two_bytes c.second.node.0 i }; port = c.second.port };
}))

node_bytes : (v kind : ℕ) → v < 65536 → All Byte (node_record v kind)
node_bytes v kind small =
    All-from_recursion Byte (node_record v kind)
    (search rules)

-- a port's numbers are small
port_small : (nodes : List ℕ) (e : End) → length nodes ≤ 128 → Port nodes e → (e.node.0 < 65536) × (e.port.0 < 256)
port_small nodes e few has =
    let past : length nodes ≤ e.node.0 → get_or nodes e.node.0 0 ≡ 0 = get_or_past nodes e.node.0 0 in
    (grind (arith, nat_tests), grind (arith, nat_tests))

cable_bytes : (nodes : List ℕ) (c : Cable) → length nodes ≤ 128 → JoinsPorts nodes c → All Byte (cable_record c)
cable_bytes nodes c few joins =
    let a = port_small nodes c.first few joins.0 in
    let b = port_small nodes c.second few joins.1 in
    All-from_recursion Byte (cable_record c)
    (search rules)

-- the first i records keep the rules and describe net
abbrev Stage : Limits → List ℕ → ℕ → Described → Type 0
Stage limits f i net = (described f i ≡ net) × Fine limits f i

stage_more : (limits : Limits) (f : List ℕ) (i : ℕ) (net : Described) (r : Option Record) → Stage limits f i net → said f i ≡ r → Kept (asked limits net r) → Stage limits f (i + 1) (grown net r)
stage_more limits f i net r stage says kept =
    let kept' : Kept (asked limits (described f i) (said f i)) = subst (λ n. Kept (asked limits n (said f i))) (sym stage.0) (subst (λ s. Kept (asked limits net s)) (sym says) kept) in (
      described_more f i ∙ ap (λ n. grown n (said f i)) stage.0 ∙ ap (grown net) says,
      below_more (λ j. Kept (asked limits (described f j) (said f j))) i stage.1 kept',
    )

stage_same : (limits : Limits) (f : List ℕ) (i j : ℕ) (a b : Described) → i ≡ j → a ≡ b → Stage limits f i a → Stage limits f j b
stage_same limits f i j a b number same stage = subst (Stage limits f j) same (subst (λ k. Stage limits f k a) number stage)

-- the nodes and cables, with no entries
abbrev net_of : List ℕ → List Cable → Described
net_of nodes cables = record { nodes = nodes; cables = cables; entries = [] }

-- where no two cables share a port, the ends of a cable are free of the cables before it
free_of_before : (cables : List Cable) (k : ℕ) (e : End) → Apart cables → k < length cables → EndsAt (get_or cables k none) e → FreeEnd (take k cables) e
free_of_before cables k e apart l new j low old =
    let before : j < k = omega (arith, length-take k cables) in
    let a = by_port cables e j (omega arith) (subst (λ x. EndsAt x e) (get_or-take k cables j none before) old) in
    let b = by_port cables e k l new in
    omega (arith, leaves_once cables apart e a.0 b.0 a.1 b.1, a.2, b.2)

module _ (limits : Limits) (nodes : List ℕ) (cables : List Cable) (rules : KeepsRules nodes cables) (node_room : length nodes ≤ limits.nodes) (cable_room : length cables ≤ limits.cables) where
  abbrev file : List ℕ
  file = written nodes cables

  node_bytes_long : length (node_records 0 nodes) ≡ 8 * length nodes
  node_bytes_long = rows_length node_record node_records node_rows 0 nodes

  -- the first k records are those of the first k nodes
  nodes_read : (k : ℕ) → k ≤ length nodes → Stage limits file k (net_of (take k nodes) [])
  nodes_read zero l = (refl, λ j h. absurd (omega arith))
  nodes_read (suc k) l =
      let says = node_says k (get_or nodes k 0) (rules.1 k (omega arith)) in
      let told : said file k ≡ Some (Node says.0 (record { 0 = k })) = rows_said node_record node_records node_rows file [] (cable_records cables) 0 k k nodes 0 refl refl (omega arith) (omega arith) ∙ says.2 in
      let next = stage_more limits file k (net_of (take k nodes) []) (Some (Node says.0 (record { 0 = k }))) (nodes_read k (omega arith)) told
      ((refl, refl), (omega (arith, length-take k nodes), (omega (arith, length-take k nodes), tt))) in
      let more : take k nodes ++ code says.0 ∷ [] ≡ take (suc k) nodes = ap (λ n. take k nodes ++ n ∷ []) says.1 ∙ sym (take_more nodes k 0 (omega arith)) ∙ ap (λ i. take i nodes) (add-one k) in
      stage_same limits file (k + 1) (suc k) _ _ (omega arith) (ap (λ ns. net_of ns []) more) next

  -- the next k records are those of the first k cables
  cables_read : (k : ℕ) → k ≤ length cables → Stage limits file (length nodes + k) (net_of nodes (take k cables))
  cables_read zero l =
      let all : take (length nodes) nodes ≡ nodes = take_all (length nodes) nodes (omega arith) in
      stage_same limits file (length nodes) (length nodes + 0) _ _ (omega arith) (ap (λ ns. net_of ns []) all) (nodes_read (length nodes) (omega arith))
  cables_read (suc k) l =
      let n = length nodes + k in
      let c = get_or cables k none in
      let is : file ≡ node_records 0 nodes ++ (cable_records cables ++ []) = ap (λ bs. node_records 0 nodes ++ bs) (sym (append-nil (cable_records cables))) in
      let told : said file n ≡ Some (Joins c) = rows_said (λ _. cable_record) (λ _. cable_records) cable_rows file (node_records 0 nodes) [] (length nodes) n k cables none is node_bytes_long refl (omega arith) ∙ cable_says c in
      let free : (e : End) → EndsAt c e → FreeEnd (take k cables) e = λ e ends. free_of_before cables k e rules.3 (omega arith) ends in
      let next = stage_more limits file n (net_of nodes (take k cables)) (Some (Joins c)) (cables_read k (omega arith)) told
      (refl, (omega (arith, length-take k cables), (rules.2 k (omega arith), ((free c.first (inl refl), free c.second (inr refl)), tt)))) in
      let more : take k cables ++ c ∷ [] ≡ take (suc k) cables = sym (take_more cables k none (omega arith)) ∙ ap (λ i. take i cables) (add-one k) in
      stage_same limits file (n + 1) (length nodes + suc k) _ _ (omega arith) (ap (net_of nodes) more) next

  long : length file ≡ 8 * (length nodes + length cables)
  long = omega (arith, length-append (node_records 0 nodes) (cable_records cables), node_bytes_long, rows_length (λ _. cable_record) (λ _. cable_records) cable_rows 0 cables)

  full : Stage limits file (length file / 8) (net_of nodes cables)
  full =
      let all : take (length cables) cables ≡ cables = take_all (length cables) cables (omega arith) in
      stage_same limits file (length nodes + length cables) (length file / 8) _ _ (omega (arith, long)) (ap (net_of nodes) all) (cables_read (length cables) (omega arith))

  shown : Shown (net_of nodes cables) (counted nodes cables) nodes cables []
  shown = record {
    node_count = refl;
    cable_count = refl;
    entry_count = refl;
    node = λ k. refl;
    cable = λ k. refl;
    hop = λ w v h. inl (get_or_past {X = ℕ} [] (length nodes * w + v) 0 (omega arith), λ k l. absurd (omega arith));
    blank = λ _ k. get_or_past {X = ℕ} [] k 0 (omega arith);
  }

  accepted : Answers limits file (Ok (counted nodes cables)) nodes cables []
  accepted =
      let is = sym full.0 in (
        omega (arith, long),
        full.1,
        subst (λ net. (v : ℕ) → Alone net v → ⊥) is rules.4,
        subst (λ net. Shown net (counted nodes cables) nodes cables []) is shown,
      )

  all_bytes : All Byte file
  all_bytes =
      All-append Byte (node_records 0 nodes) (cable_records cables)
      (rows_bytes node_record node_records node_rows 0 nodes (λ k d l. node_bytes (0 + k) (get_or nodes k d) (omega (arith, rules.0.0))))
      (rows_bytes (λ _. cable_record) (λ _. cable_records) cable_rows 0 cables (λ k d l. cable_bytes nodes (get_or cables k d) rules.0.0 (All-from_get_or (JoinsPorts nodes) cables none rules.2 k d l)))

  pub written_accepted : ((k : ℕ) → get_or file k 0 < 256) × Answers limits file (Ok (counted nodes cables)) nodes cables []
  written_accepted = (
    λ k. let past = get_or_past file k 0 in let within = all_bytes k 0 in grind arith,
    accepted,
  )

  pub written_read :
      (r : Result Counts FileFault) (nodes' : List ℕ) (cables' : List Cable) (forwarding' : List ℕ) → Answers limits file r nodes' cables' forwarding' →
      (r ≡ Ok (counted nodes cables)) × (take (length nodes) nodes' ≡ nodes) × (take (length cables) cables' ≡ cables) × ((k : ℕ) → get_or forwarding' k 0 ≡ 0)
  written_read r nodes' cables' forwarding' h =
      let same : r ≡ Ok (counted nodes cables) = one_answer limits file r (Ok (counted nodes cables)) nodes' nodes cables' cables forwarding' [] h accepted in
      let h' : Answers limits file (Ok (counted nodes cables)) nodes' cables' forwarding' = subst (λ s. Answers limits file s nodes' cables' forwarding') same h in
      let at = accepted_begins limits file (counted nodes cables) nodes' cables' forwarding' h' in
      let values = one_value limits file (counted nodes cables) (counted nodes cables) nodes' nodes cables' cables forwarding' [] h' accepted in (
        same,
        at.2 ∙ ap (λ (net : Described). net.nodes) full.0,
        at.3 ∙ ap (λ (net : Described). net.cables) full.0,
        λ k. values.2 k ∙ get_or_past {X = ℕ} [] k 0 (omega arith),
      )

given_keeps : (limits : Limits) (f nodes : List ℕ) (cables : List Cable) → Gives limits f nodes cables → KeepsRules nodes cables
given_keeps limits f nodes cables g =
    let kept : KeepsRules (take g.0.nodes g.1) (take g.0.cables g.2) = accepted_keeps limits f g.0 g.1 g.2 g.3 g.4 in
    subst (λ n. KeepsRules n cables) g.5 (subst (λ l. KeepsRules (take g.0.nodes g.1) l) g.6 kept)

pub files_give_racks : FilesGiveRacks
files_give_racks limits n m nodes cables = (
  λ f g. given_keeps limits f nodes cables g,
  λ rules.
      let told = written_accepted limits nodes cables rules (omega (arith, rules.0.0)) (omega (arith, rules.0.1)) in
      (written nodes cables, told.0, (counted nodes cables, nodes, cables, [], told.1, take_all (length nodes) nodes (omega arith), take_all (length cables) cables (omega arith))),
)
