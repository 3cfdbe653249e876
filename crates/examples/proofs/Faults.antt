-- The one fault that the check may tell of a plan. Assumes nothing.
use Rattle.std.proofs.Common.{◌≡◌, ℕ, ◌<◌, ◌⊎◌, List, Ok, Err, Result, ◌≢◌, sym, refl, ap, subst, ⊎_elim, inl, inr, arith}
use Rattle.std.proofs.lemmas.Bool.{cases_order}
use Rattle.rack.specs.Racks.{channel_count}
use Rattle.routing.specs.declared.pair.Pair.{Pair}
use Rattle.routing.specs.declared.fault.WalkFault.{WalkFault}
use Rattle.routing.specs.declared.fault.WalkFault.TheVariants.{NoPair, Endless, NoChannel, Elsewhere, Lane, OtherHost, Memory}
use Rattle.routing.specs.Paths.{Routing, PairOf}
use Rattle.routing.specs.Walks.{WalkStops}
use Rattle.routing.proofs.Determined.{same_nodes, one_fault, stopped_undelivered, walked_or_stopped}
use Rattle.checking.specs.declared.acceptance.Acceptance.{Acceptance}
use Rattle.checking.specs.declared.fault.CheckFault.{CheckFault}
use Rattle.checking.specs.declared.fault.CheckFault.TheVariants.{Lanes, Tables, Level, Walk, Ring, Memory as NoMemory}
use Rattle.checking.specs.Answers.{TablesAt, Starts, Checked}
use Rattle.checking.specs.Plans.{level_at, FinePair, AllFine, Earlier, FineBefore, FirstFault}
use Rattle.examples.specs.Plans.{WalkTells}

-- where the walk stops by a fault other than want of memory, it tells that fault
pub walk_tells : (g : Routing) (lanes : ℕ) (p : Pair) (s room : ℕ) (f : WalkFault) → WalkStops g lanes p s room f → f ≢ Memory → WalkTells g lanes p s f
walk_tells g lanes p s room f e ne = ((λ path w. ne (walked_or_stopped g lanes p s room path f w e)), (λ room' f' e' ne'. one_fault g lanes p s room' room f' f e' e ne' ne))

module _ (g : Routing) (levels : List ℕ) (lanes : ℕ) where
  -- a fine pair's walk meets no fault
  pub fine_or_stops :
      (p : Pair) (f : WalkFault) → PairOf g.rack p.sender.0 p.receiver.0 → FinePair g levels lanes p.sender.0 p.receiver.0 →
      WalkStops g lanes p (level_at g.rack levels p.sender.0 p.receiver.0) (channel_count g.rack) f → ⊥
  fine_or_stops p (NoPair q) pair fine e = e.1 pair
  fine_or_stops p (Endless q k) pair fine e = stopped_undelivered g lanes p (level_at g.rack levels p.sender.0 p.receiver.0) (channel_count g.rack) (Endless q k) e tt fine.arrives
  fine_or_stops p (NoChannel q k) pair fine e = stopped_undelivered g lanes p (level_at g.rack levels p.sender.0 p.receiver.0) (channel_count g.rack) (NoChannel q k) e tt fine.arrives
  fine_or_stops p (Elsewhere q k) pair fine e = stopped_undelivered g lanes p (level_at g.rack levels p.sender.0 p.receiver.0) (channel_count g.rack) (Elsewhere q k) e tt fine.arrives
  fine_or_stops p (Lane q k) pair fine e = omega (arith, fine.low k e.1.0 e.1.1, e.1.2)
  fine_or_stops p (OtherHost q k) pair fine e = stopped_undelivered g lanes p (level_at g.rack levels p.sender.0 p.receiver.0) (channel_count g.rack) (OtherHost q k) e tt fine.arrives
  fine_or_stops p Memory pair fine e = omega (arith, e.1)

  not_memory : (p : Pair) (f : WalkFault) → WalkStops g lanes p (level_at g.rack levels p.sender.0 p.receiver.0) (channel_count g.rack) f → f ≢ Memory
  not_memory p f e m =
      let none : PairOf g.rack p.sender.0 p.receiver.0 × (channel_count g.rack < channel_count g.rack) = subst (λ x. WalkStops g lanes p (level_at g.rack levels p.sender.0 p.receiver.0) (channel_count g.rack) x) m e in
      omega (arith, none.1)

  -- a plan all of whose pairs are fine has no first fault
  pub fine_no_fault : AllFine g levels lanes → (f : CheckFault) → FirstFault g levels lanes f → ⊥
  fine_no_fault all Lanes e = e.3
  fine_no_fault all Tables e = e.3
  fine_no_fault all (Level p) e = let fine = all e.0.sender.0 e.0.receiver.0 e.1 in omega (arith, fine.level, e.3.1)
  fine_no_fault all (Walk f) e = fine_or_stops e.0 f e.1 (all e.0.sender.0 e.0.receiver.0 e.1) e.3.1
  fine_no_fault all (Ring n) e = e.3
  fine_no_fault all NoMemory e = e.3

  module _
      (flat : (u v : ℕ) → PairOf g.rack u v → level_at g.rack levels u v ≡ 0) (p : Pair) (pair : PairOf g.rack p.sender.0 p.receiver.0)
      (before : FineBefore g levels lanes p.sender.0 p.receiver.0) (f : WalkFault)
      (stops : WalkStops g lanes p (level_at g.rack levels p.sender.0 p.receiver.0) (channel_count g.rack) f) where
    not_all : AllFine g levels lanes → ⊥
    not_all all = fine_or_stops p f pair (all p.sender.0 p.receiver.0 pair) stops

    same_pair : (q : Pair) (e : WalkFault) → PairOf g.rack q.sender.0 q.receiver.0 → FineBefore g levels lanes q.sender.0 q.receiver.0 →
        WalkStops g lanes q (level_at g.rack levels q.sender.0 q.receiver.0) (channel_count g.rack) e → q ≡ p
    same_pair q e there earlier stopped =
        let here = λ (l : Earlier q.sender.0 q.receiver.0 p.sender.0 p.receiver.0). fine_or_stops q e there (before q.sender.0 q.receiver.0 there l) stopped in
        let gone = λ (l : Earlier p.sender.0 p.receiver.0 q.sender.0 q.receiver.0). fine_or_stops p f pair (earlier p.sender.0 p.receiver.0 pair l) stops in
        let sender : q.sender.0 ≡ p.sender.0 =
        ⊎_elim (λ (s : q.sender.0 ≡ p.sender.0). s)
        (λ (d : (q.sender.0 < p.sender.0) ⊎ (p.sender.0 < q.sender.0)).
        ⊎_elim (λ (l : q.sender.0 < p.sender.0). absurd (here (inl l))) (λ (l : p.sender.0 < q.sender.0). absurd (gone (inl l))) d)
        (cases_order q.sender.0 p.sender.0) in
        let receiver : q.receiver.0 ≡ p.receiver.0 =
        ⊎_elim (λ (s : q.receiver.0 ≡ p.receiver.0). s)
        (λ (d : (q.receiver.0 < p.receiver.0) ⊎ (p.receiver.0 < q.receiver.0)).
        ⊎_elim (λ (l : q.receiver.0 < p.receiver.0). absurd (here (inr (sender, l)))) (λ (l : p.receiver.0 < q.receiver.0). absurd (gone (inr (sym sender, l)))) d)
        (cases_order q.receiver.0 p.receiver.0) in
        same_nodes q p sender receiver

    -- the check tells the first fault
    pub first_told :
        (old new : TablesAt) (a : Result Acceptance CheckFault) → Starts g levels lanes old → Checked g levels lanes old new a → a ≢ Err NoMemory → a ≡ Err (Walk f)
    first_told old new (Ok k) start h room = absurd (not_all h.1)
    first_told old new (Err Lanes) start h room = absurd (h.0 start.0)
    first_told old new (Err Tables) start h room = absurd (h.1 start)
    first_told old new (Err (Level q)) start h room =
        let none = flat h.1.0.sender.0 h.1.0.receiver.0 h.1.1 in
        absurd (omega (arith, none, h.1.3.1))
    first_told old new (Err (Ring n)) start h room = absurd (not_all h.1)
    first_told old new (Err NoMemory) start h room = absurd (room refl)
    first_told old new (Err (Walk e)) start h room =
        let q = h.1.0 in
        let stopped = h.1.3.1 in
        let same : q ≡ p = same_pair q e h.1.1 h.1.2 stopped in
        let at_p : WalkStops g lanes p (level_at g.rack levels p.sender.0 p.receiver.0) (channel_count g.rack) e =
        subst (λ (x : Pair). WalkStops g lanes x (level_at g.rack levels x.sender.0 x.receiver.0) (channel_count g.rack) e) same stopped in
        ap (λ x. Err (Walk x)) (one_fault g lanes p (level_at g.rack levels p.sender.0 p.receiver.0) (channel_count g.rack) (channel_count g.rack) e f at_p stops (not_memory p e at_p) (not_memory p f stops))
