-- The hops of a path, one behind the other. Assumes nothing.
use Rattle.std.proofs.Common.{◌≡◌, ℕ, zero, suc, ◌+◌, ◌<◌, ◌≤◌, true, false, Some, None, Option, sym, refl, ap, ◌∙◌, subst, ⊎_elim, arith}
use Rattle.std.proofs.lemmas.Bool.{cases_eq, cases_Bool, cond-true, cond-false}
use Rattle.std.proofs.lemmas.Option.{none-some, same_Some}
use Rattle.rack.specs.declared.rack.Rack.{Rack}
use Rattle.rack.specs.Racks.{channel_count, Host, Leaving}
use Rattle.rack.proofs.Facts.{one_out}
use Rattle.routing.specs.Sources.{enters_switch}
use Rattle.routing.specs.Turns.{turns}
use Rattle.routing.specs.Paths.{Routing, Hop, hop, named, behind, hop_at, OnPath}
use Rattle.routing.proofs.Tests.{turns_below}

module _ (g : Routing) (v s : ℕ) where
  -- the hop that is named behind a channel that enters a switch
  pub behind_some : (h : Hop) (d : ℕ) → enters_switch g.rack h.channel ≡ true → g.next h.channel v ≡ Some d → turns g.rack h.channel d ≡ true → behind g v s (Some h) ≡ Some (hop d (g.lane h.channel d s))
  behind_some h d sw nx tn = cond-true _ _ _ sw ∙ ap (named g v s h.channel) nx ∙ cond-true _ _ _ tn

  pub behind_ends : (h : Hop) → enters_switch g.rack h.channel ≡ false → behind g v s (Some h) ≡ None
  behind_ends h sw = cond-false _ _ _ sw

  came_named :
      (k o : Hop) (x : Option ℕ) → named g v s k.channel x ≡ Some o →
      (d : ℕ) × (x ≡ Some d) × (turns g.rack k.channel d ≡ true) × (o ≡ hop d (g.lane k.channel d s))
  came_named k o None e = absurd (none-some o e)
  came_named k o (Some d) e =
      ⊎_elim
      (λ (t : turns g.rack k.channel d ≡ true). (d, refl, t, same_Some _ _ (sym e ∙ cond-true _ _ _ t)))
      (λ (t : turns g.rack k.channel d ≡ false). absurd (none-some o (sym (cond-false _ _ _ t) ∙ e)))
      (cases_Bool (turns g.rack k.channel d))

  -- a hop stands behind another, which enters a switch
  pub came :
      (x : Option Hop) (o : Hop) → behind g v s x ≡ Some o →
      (k : Hop) × (x ≡ Some k) × (enters_switch g.rack k.channel ≡ true) × ((d : ℕ) × (g.next k.channel v ≡ Some d) × (turns g.rack k.channel d ≡ true) × (o ≡ hop d (g.lane k.channel d s)))
  came None o e = absurd (none-some o e)
  came (Some k) o e =
      ⊎_elim
      (λ (t : enters_switch g.rack k.channel ≡ true). (k, refl, t, came_named k o (g.next k.channel v) (sym (cond-true _ _ _ t) ∙ e)))
      (λ (t : enters_switch g.rack k.channel ≡ false). absurd (none-some o (sym (cond-false _ _ _ t) ∙ e)))
      (cases_Bool (enters_switch g.rack k.channel))

  module _ (c : ℕ) where
    -- a path that has ended stays so
    pub gone : (i j : ℕ) → i ≤ j → hop_at g c v s i ≡ None → hop_at g c v s j ≡ None
    gone i zero l e = let z : i ≡ 0 = omega arith in subst (λ n. hop_at g c v s n ≡ None) z e
    gone i (suc j) l e =
        ⊎_elim
        (λ (q : i ≡ suc j). subst (λ n. hop_at g c v s n ≡ None) q e)
        (λ (q : i ≡ suc j → ⊥). ap (behind g v s) (gone i j (omega arith) e))
        (cases_eq i (suc j))

    -- every hop is on a channel
    pub hop_below : c < channel_count g.rack → (i : ℕ) (h : Hop) → hop_at g c v s i ≡ Some h → h.channel < channel_count g.rack
    hop_below l zero h e = let q : c ≡ h.channel = cc in subst (λ n. n < channel_count g.rack) q l
    hop_below l (suc i) h e =
        let b = came (hop_at g c v s i) h e in
        let t = b.3 in
        subst (λ (k : Hop). k.channel < channel_count g.rack) (sym t.3) (turns_below g.rack b.0.channel t.0 t.2)

    -- the next hop
    pub hop_more :
        (i j : ℕ) (h : Hop) (d : ℕ) → j ≡ i + 1 → hop_at g c v s i ≡ Some h → enters_switch g.rack h.channel ≡ true → g.next h.channel v ≡ Some d → turns g.rack h.channel d ≡ true →
        hop_at g c v s j ≡ Some (hop d (g.lane h.channel d s))
    hop_more i j h d n e sw nx tn = let m : j ≡ suc i = omega arith in subst (λ k. hop_at g c v s k ≡ Some (hop d (g.lane h.channel d s))) (sym m) (ap (behind g v s) e ∙ behind_some h d sw nx tn)

    -- nothing comes behind a hop that enters no switch
    pub hop_last : (i j : ℕ) (h k : Hop) → hop_at g c v s i ≡ Some h → enters_switch g.rack h.channel ≡ false → i < j → hop_at g c v s j ≡ Some k → ⊥
    hop_last i j h k e sw l f = none-some k (sym (gone (suc i) j (omega arith) (ap (behind g v s) e ∙ behind_ends h sw)) ∙ f)

-- one channel leaves a host, and the path of a pair begins on it
pub only_out : (r : Rack) (u b c : ℕ) → Host r u → Leaving r u b → Leaving r u c → b ≡ c
only_out r u b c host l m = let one = one_out r u host in one.2 b l ∙ sym (one.2 c m)

pub from_first : (g : Routing) (u v s c i : ℕ) (h : Hop) → Host g.rack u → Leaving g.rack u c → OnPath g u v s i h → hop_at g c v s i ≡ Some h
from_first g u v s c i h host leaving on =
    subst (λ n. hop_at g n v s i ≡ Some h) (only_out g.rack u on.0 c host on.1 leaving) on.2
