-- Courses of calls, and the law that they keep. Assumes nothing.
use Rattle.std.proofs.Common.{◌≡◌, ℕ, ◌+◌, ◌<◌, ◌≤◌, List, [], ◌∷◌, ◌++◌, length, get_or, take, subst, take_all}
use Rattle.std.proofs.lemmas.List.{take_more}
use Rattle.courses.specs.Queues.{Queues}
use Rattle.fabric.specs.declared.packet.Packet.{Packet}
use Rattle.fabric.specs.declared.call.Call.{Call}
use Rattle.fabric.specs.Calls.{Setup, Answer, Acts}
use Rattle.fabric.specs.Courses.{Performs, done, then, KeepsLaw}
use Rattle.fabric.proofs.Lawful.{lawful, from_empty}

performs_more : {s : Setup} {q : Queues Packet} {cs : List Call} {rs : List Answer} {q' : Queues Packet} → Performs s q cs rs q' → (c : Call) (a : Answer) (q'' : Queues Packet) → Acts s q' c a q'' → Performs s q (cs ++ (c ∷ [])) (rs ++ (a ∷ [])) q''
performs_more done c a q'' s = then s done
performs_more (then t r) c a q'' s = then t (performs_more r c a q'' s)

module _ (s : Setup) (q : Queues Packet) where
  pub performs_none : (rs : List Answer) → rs ≡ [] → Performs s q [] rs q
  performs_none rs e = rw e done

  -- the call at place i is made, and its answer put behind the others
  pub performs_push :
      (calls : List Call) (rs rs' : List Answer) (i : ℕ) (d : Call) (a : Answer) (q' q'' : Queues Packet) → i < length calls → Performs s q (take i calls) rs q' → Acts s q' (get_or calls i d) a q'' →
      rs' ≡ rs ++ (a ∷ []) → Performs s q (take (i + 1) calls) rs' q''
  performs_push calls rs rs' i d a q' q'' h r act e = rw (take_more calls i d h, e) (performs_more r (get_or calls i d) a q'' act)

  pub performs_all : (calls : List Call) (rs : List Answer) (i : ℕ) (q' : Queues Packet) → length calls ≤ i → Performs s q (take i calls) rs q' → Performs s q calls rs q'
  performs_all calls rs i q' h r = subst (λ cs. Performs s q cs rs q') (take_all i calls h) r

pub keeps : (s : Setup) → 1 ≤ s.depth → (before : Queues Packet) (calls : List Call) (answers : List Answer) (after : Queues Packet) → Performs s before calls answers after → KeepsLaw s before calls answers after
keeps s deep before calls answers after p = record {
  performed = p;
  lawful = lawful s deep before calls answers after p;
  from_empty = from_empty s deep before calls answers after p;
}
