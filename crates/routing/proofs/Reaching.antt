-- What one round does, a node and a channel at a time. Assumes nothing.
use Rattle.std.proofs.Common.{◌≡◌, ℕ, ◌+◌, ◌*◌, ◌<◌, ◌≤◌, Bool, true, false, ◌||◌, List, length, get_or, set, sym, refl, ap, ◌∙◌, subst, ⊎_elim, arith}
use Rattle.std.proofs.lemmas.List.{get_or_default}
use Rattle.std.proofs.lemmas.Bool.{cases_eq, or_right, true≢false}
use Rattle.rack.specs.declared.cable.End.{End}
use Rattle.rack.specs.declared.numbers.Channel.{Channel}
use Rattle.rack.specs.declared.rack.Rack.{Rack}
use Rattle.rack.specs.Network.{head_end}
use Rattle.rack.specs.Racks.{cables_of, node_count, channel_count, head, Leaving, back}
use Rattle.rack.proofs.Facts.{tail_below, head_below, ways_back}
use Rattle.routing.specs.Ways.{far, Grown, Leads, Reached, Passes, Spread}
use Rattle.rack.specs.Index.{Lists}
use Rattle.routing.proofs.Columns.{far_set_same, far_set_other, grown_none, grown_set, grown_weaken, grown_join}

-- the place of the node that a channel enters, from its end
pub head_place : (r : Rack) (v c k : ℕ) (e : End) → k ≡ node_count r * e.node.0 + v → e ≡ head_end (cables_of r) c → k ≡ node_count r * head r c + v
head_place r v c k e is same = is ∙ ap (λ (x : End). node_count r * x.node.0 + v) same

-- who stands at the other end of the first k channels out of x has a way, and those that had none got distance d
pub record Reaching (r : Rack) (v x d : ℕ) (list : List Channel) (k : ℕ) (old new : List ℕ) (found : Bool) : Type 0 where
  pub grown : Grown (node_count r) v d (λ w. Leads r w x) old new found
  pub all : (i : ℕ) (c : Channel) → i < k → far (node_count r) v new (head r (get_or list i c).0) ≡ 255 → ⊥

-- the channels out of x, in their order
module _ (r : Rack) (v x d : ℕ) (list : List Channel) (leavers : Lists (Leaving r x) list) where
  pub reaching_none : (t : List ℕ) → Reaching r v x d list 0 t t false
  reaching_none t = record { grown = grown_none (node_count r) v d (λ w. Leads r w x) t; all = λ i c h. absurd (omega arith) }

  -- the channel at place k
  module _ (k : ℕ) (inside : k < length list) where
    abbrev pub c : Channel
    c = get_or list k (record { 0 = 0 })

    leaves : Leaving r x c.0
    leaves = leavers.each k (record { 0 = 0 }) inside

    -- what is so of the channels before it and of c is so of those up to it
    up_to : (P : ℕ → Type 0) → ((i : ℕ) (e : Channel) → i < k → P (get_or list i e).0) → P c.0 → (i : ℕ) (e : Channel) → i < k + 1 → P (get_or list i e).0
    up_to P below here i e low =
        ⊎_elim
        (λ (z : i ≡ k). subst (λ (y : Channel). P y.0) (sym (ap (λ n. get_or list n e) z ∙ get_or_default list k e (record { 0 = 0 }) inside)) here)
        (λ (ne : i ≡ k → ⊥). below i e (omega arith))
        (cases_eq i k)

    -- its head has a way already
    pub reaching_skip : (old now' : List ℕ) (found : Bool) (m : ℕ) → m ≡ node_count r * head r c.0 + v → (get_or now' m 0 ≡ 255 → ⊥) → Reaching r v x d list k old now' found → Reaching r v x d list (k + 1) old now' found
    reaching_skip old now' found m at has p =
        record { grown = p.grown; all = up_to (λ b. far (node_count r) v now' (head r b) ≡ 255 → ⊥) p.all (λ e. has (ap (λ n. get_or now' n 0) at ∙ e)) }

    -- its head gets the distance: the other channel of the cable leads from there to x
    module _ (l : v < node_count r) (small : d < 255) (old now' : List ℕ) (found : Bool) (long : node_count r * node_count r ≤ length now') (had : far (node_count r) v now' (head r c.0) ≡ 255) (p : Reaching r v x d list k old now' found) where
      abbrev new : List ℕ
      new = set now' (node_count r * head r c.0 + v) d

      h : head r c.0 < node_count r
      h = head_below r c.0 leaves.0

      leads : Leads r (head r c.0) x
      leads = let w = ways_back r c.0 leaves.0 in (back c.0, (w.0, w.2), w.4 ∙ leaves.1)

      here : far (node_count r) v new (head r c.0) ≡ 255 → ⊥
      here e = omega (arith, far_set_same (node_count r) v (head r c.0) d now' h l long)

      before : (i : ℕ) (e : Channel) → i < k → far (node_count r) v new (head r (get_or list i e).0) ≡ 255 → ⊥
      before i e low z =
          let b = (get_or list i e).0 in
          ⊎_elim
          (λ (same : head r b ≡ head r c.0). here (sym (ap (far (node_count r) v new) same) ∙ z))
          (λ (ne : head r b ≡ head r c.0 → ⊥). p.all i e low (sym (far_set_other (node_count r) v (head r c.0) d now' l (head r b) ne) ∙ z))
          (cases_eq (head r b) (head r c.0))

      pub reaching_set : Reaching r v x d list (k + 1) old new true
      reaching_set = record {
        grown = grown_join (node_count r) v d (λ w. Leads r w x) old now' new found true true p.grown (grown_set (node_count r) v d (λ w. Leads r w x) now' (head r c.0) h l long had leads) (λ e. e) (λ e. absurd (true≢false e));
        all = up_to (λ b. far (node_count r) v new (head r b) ≡ 255 → ⊥) before here;
      }

    -- as the code has it: m is the place of the head
    pub reaching_write : v < node_count r → d < 255 → (old now' : List ℕ) (found : Bool) (m : ℕ) → node_count r * node_count r ≤ length now' → m ≡ node_count r * head r c.0 + v → get_or now' m 0 ≡ 255 → Reaching r v x d list k old now' found → Reaching r v x d list (k + 1) old (set now' m d) true
    reaching_write l small old now' found m long at had p =
        subst (λ n. Reaching r v x d list (k + 1) old (set now' n d) true) (sym at) (reaching_set l small old now' found long (sym (ap (λ n. get_or now' n 0) at) ∙ had) p)

  -- no channel is left: whatever leads to x is the other channel of one that leaves x
  pub reaching_all : (k : ℕ) → length list ≤ k → (old now' : List ℕ) (found : Bool) → Reaching r v x d list k old now' found → Reached r v x d (channel_count r) old now' found
  reaching_all k over old now' found p =
      record {
        grown = p.grown;
        all = λ c h enters z.
            let w = ways_back r c h in
            let y : Channel = record { 0 = back c } in
            let at = leavers.every y (w.0, w.2 ∙ enters.1) in
            p.all at.0 y (omega (arith, at.1)) (subst (λ (q : Channel). far (node_count r) v now' (head r q.0) ≡ 255) (sym at.2) (ap (far (node_count r) v now') w.4 ∙ z));
      }

or_no : (a b : Bool) → b ≡ false → a || b ≡ a
or_no true b e = refl
or_no false b e = e

-- the nodes, in their order
module _ (r : Rack) (v d : ℕ) (few : d < 128) where
  module _ (x : ℕ) (h : x < node_count r) (old now' : List ℕ) (found : Bool) (p : Spread r v d x old now' found) where
    abbrev Source : ℕ → Type 0
    Source w = (y : ℕ) × (y < node_count r) × Passes r v d old y × Leads r w y

    -- a distance d is neither new nor lost
    passes_then : far (node_count r) v now' x ≡ d → far (node_count r) v old x ≡ d
    passes_then e =
        ⊎_elim
        (λ (same : far (node_count r) v now' x ≡ far (node_count r) v old x). sym same ∙ e)
        (λ (grew : (far (node_count r) v old x ≡ 255) × (far (node_count r) v now' x ≡ d + 1) × Source x). absurd (omega (arith, grew.1)))
        (p.grown.column x h)

    passes_now : far (node_count r) v old x ≡ d → far (node_count r) v now' x ≡ d
    passes_now e =
        ⊎_elim
        (λ (same : far (node_count r) v now' x ≡ far (node_count r) v old x). same ∙ e)
        (λ (grew : (far (node_count r) v old x ≡ 255) × (far (node_count r) v now' x ≡ d + 1) × Source x). absurd (omega (arith, grew.0)))
        (p.grown.column x h)

    -- what is so of the nodes below x and of x is so of those up to x
    up_to_node : (P : ℕ → Type 0) → ((y : ℕ) → y < x → P y) → P x → (y : ℕ) → y < x + 1 → P y
    up_to_node P below here y m =
        ⊎_elim (λ (z : y ≡ x). subst P (sym z) here) (λ (z : y ≡ x → ⊥). below y (omega arith)) (cases_eq y x)

    -- x does not pass
    pub spread_skip : (Passes r v d now' x → ⊥) → Spread r v d (x + 1) old now' found
    spread_skip off =
        record {
          grown = p.grown;
          all = up_to_node (λ y. Passes r v d old y → (w : ℕ) → Leads r w y → far (node_count r) v now' w ≡ 255 → ⊥) p.all (λ q. absurd (off (passes_now q.0, q.1)));
        }

    -- the nodes with a channel to x were reached
    module _ (new : List ℕ) (more : Bool) (q : Reached r v x (d + 1) (channel_count r) now' new more) (passes : Passes r v d now' x) where
      ok : Passes r v d old x
      ok = (passes_then passes.0, passes.1)

      keeps : (w : ℕ) → w < node_count r → far (node_count r) v new w ≡ 255 → far (node_count r) v now' w ≡ 255
      keeps w m e =
          ⊎_elim
          (λ (same : far (node_count r) v new w ≡ far (node_count r) v now' w). sym same ∙ e)
          (λ (grew : (far (node_count r) v now' w ≡ 255) × (far (node_count r) v new w ≡ d + 1) × Leads r w x). grew.0)
          (q.grown.column w m)

      leads_below : (w y : ℕ) → Leads r w y → w < node_count r
      leads_below w y leads = subst (λ a. a < node_count r) leads.1.1 (tail_below r leads.0 leads.1.0)

      all_here : (w : ℕ) → Leads r w x → far (node_count r) v new w ≡ 255 → ⊥
      all_here w leads e = q.all leads.0 leads.1.0 (leads.1.0, leads.2) (ap (far (node_count r) v new) leads.1.1 ∙ e)

      pub spread_reach : Spread r v d (x + 1) old new (found || more)
      spread_reach = record {
        grown = grown_join (node_count r) v (d + 1) Source old now' new found more (found || more) p.grown (grown_weaken (node_count r) v (d + 1) (λ w. Leads r w x) Source now' new more (λ w leads. (x, h, ok, leads)) q.grown) (or_right found more) (or_no found more);
        all = up_to_node (λ y. Passes r v d old y → (w : ℕ) → Leads r w y → far (node_count r) v new w ≡ 255 → ⊥) (λ y m s w leads e. p.all y m s w leads (keeps w (leads_below w y leads) e)) (λ s w leads e. all_here w leads e);
      }
