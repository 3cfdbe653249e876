-- What a push to a queue, and a packet's leave, change. Assumes nothing.
use Rattle.std.proofs.Common.{◌≡◌, ℕ, zero, suc, ◌+◌, ◌<◌, Bool, false, cond, List, [], ◌∷◌, ◌++◌, length, set, sum_by, filter, sym, refl, ap, ◌∙◌, add-zero, add-suc, suc-add, zero-add, arith}
use Rattle.std.specs.Prelude.{All}
use Rattle.std.proofs.lemmas.List.Elements.{filter-append, All-nil, All-head, All-push}
use Rattle.std.proofs.lemmas.List.{append-nil}
use Rattle.std.proofs.lemmas.List.Sums.{sum_by-cons, sum_by_push}
use Rattle.courses.specs.Queues.{Queues, at, push}
use Rattle.courses.specs.Law.{ahead, hops_from, hops}

-- a queue that has a packet is one of the queues
pub some_queue : {P : Type 0} (q : Queues P) (x : ℕ) (p : P) (rest : List P) → at q x ≡ p ∷ rest → x < length q
some_queue [] x p rest e = let k : 0 ≡ suc (length rest) = ap length e in absurd (omega arith)
some_queue (l ∷ q) zero p rest e = omega arith
some_queue (l ∷ q) (suc x) p rest e = omega (arith, some_queue q x p rest e)

-- what holds of each packet in its queue
pub each_set : {P : Type 0} (Q : ℕ → P → Type 0) (q : Queues P) (x : ℕ) (l : List P) → ((z : ℕ) → All (Q z) (at q z)) → All (Q x) l → (z : ℕ) → All (Q z) (at (set q x l) z)
each_set Q [] x l h k z = All-nil (Q z)
each_set Q (m ∷ q) zero l h k zero = k
each_set Q (m ∷ q) zero l h k (suc z) = h (suc z)
each_set Q (m ∷ q) (suc x) l h k zero = h zero
each_set Q (m ∷ q) (suc x) l h k (suc z) = each_set (λ n. Q (suc n)) q x l (λ n. h (suc n)) k z

pub each_push : {P : Type 0} (Q : ℕ → P → Type 0) (q : Queues P) (y : ℕ) (p : P) → ((z : ℕ) → All (Q z) (at q z)) → Q y p → (z : ℕ) → All (Q z) (at (push q y p) z)
each_push Q q y p h k = each_set Q q y (at q y ++ (p ∷ [])) h (All-push (Q y) (at q y) p (h y) k)

-- a test under which a queue's new packets are its old ones changes at no queue
pub kept_set : {P : Type 0} (test : P → Bool) (q : Queues P) (x : ℕ) (l : List P) → filter test l ≡ filter test (at q x) → (z : ℕ) → filter test (at (set q x l) z) ≡ filter test (at q z)
kept_set test [] x l e z = refl
kept_set test (m ∷ q) zero l e zero = e
kept_set test (m ∷ q) zero l e (suc z) = refl
kept_set test (m ∷ q) (suc x) l e zero = refl
kept_set test (m ∷ q) (suc x) l e (suc z) = kept_set test q x l e z

pub kept_first : {P : Type 0} (test : P → Bool) (p : P) (ps : List P) (b : Bool) → test p ≡ b → filter test (p ∷ ps) ≡ cond b (p ∷ filter test ps) (filter test ps)
kept_first test p ps b e = ap (λ t. cond t (p ∷ filter test ps) (filter test ps)) e

pub kept_push_no : {P : Type 0} (test : P → Bool) (q : Queues P) (y : ℕ) (p : P) → test p ≡ false → (z : ℕ) → filter test (at (push q y p) z) ≡ filter test (at q z)
kept_push_no test q y p no_test = kept_set test q y (at q y ++ (p ∷ [])) (filter-append test (at q y) (p ∷ []) ∙ ap (λ l. filter test (at q y) ++ l) (kept_first test p [] false no_test) ∙ append-nil (filter test (at q y)))

pub kept_leave_no : {P : Type 0} (test : P → Bool) (q : Queues P) (x : ℕ) (p : P) (rest : List P) → at q x ≡ p ∷ rest → test p ≡ false → (z : ℕ) → filter test (at (set q x rest) z) ≡ filter test (at q z)
kept_leave_no test q x p rest e no_test = kept_set test q x rest (sym (ap (filter test) e ∙ kept_first test p rest false no_test))

module _ {P : Type 0} (path_of : P → List ℕ) where
  abbrev here_ahead : ℕ → List P → ℕ
  here_ahead i l = sum_by (λ p. ahead (path_of p) i) l

  hops_set : (i : ℕ) (q : Queues P) (x : ℕ) (l : List P) → x < length q → hops_from path_of i (set q x l) + here_ahead (i + x) (at q x) ≡ hops_from path_of i q + here_ahead (i + x) l
  hops_set i [] x l h = absurd (omega arith)
  hops_set i (m ∷ q) zero l h = rw add-zero (omega arith)
  hops_set i (m ∷ q) (suc x) l h =
      let k : x < length q = omega arith in
      let ih : hops_from path_of (suc i) (set q x l) + here_ahead (i + suc x) (at q x) ≡ hops_from path_of (suc i) q + here_ahead (i + suc x) l = rw (add-suc, ← suc-add) (hops_set (suc i) q x l k) in
      omega arith

  -- one packet more in y
  pub hops_push : (q : Queues P) (y : ℕ) (p : P) → y < length q → hops path_of (push q y p) ≡ hops path_of q + ahead (path_of p) y
  hops_push q y p h =
      let s : hops path_of (push q y p) + here_ahead y (at q y) ≡ hops path_of q + here_ahead y (at q y ++ (p ∷ [])) = simp zero-add at (hops_set 0 q y (at q y ++ (p ∷ [])) h) in
      omega (arith, s, sum_by_push (λ r. ahead (path_of r) y) (at q y) p)

  -- the first packet of x less
  pub hops_leave : (q : Queues P) (x : ℕ) (p : P) (rest : List P) → at q x ≡ p ∷ rest → hops path_of (set q x rest) + ahead (path_of p) x ≡ hops path_of q
  hops_leave q x p rest e =
      let s : hops path_of (set q x rest) + here_ahead x (at q x) ≡ hops path_of q + here_ahead x rest = simp zero-add at (hops_set 0 q x rest (some_queue q x p rest e)) in
      let t : here_ahead x (at q x) ≡ ahead (path_of p) x + here_ahead x rest = ap (here_ahead x) e ∙ sum_by-cons (λ r. ahead (path_of r) x) p rest in
      omega (arith, s, t)

-- where each packet has a hop ahead, none is ahead exactly when nothing waits
pub hops_empty : {P : Type 0} (path_of : P → List ℕ) (i : ℕ) (q : Queues P) → ((x : ℕ) → at q x ≡ []) → hops_from path_of i q ≡ 0
hops_empty path_of i [] h = refl
hops_empty path_of i (l ∷ q) h = omega (arith, ap (sum_by (λ p. ahead (path_of p) i)) (h 0), hops_empty path_of (suc i) q (λ x. h (suc x)))

no_first : {P : Type 0} (path_of : P → List ℕ) (i : ℕ) (l : List P) → All (λ p. 0 < ahead (path_of p) i) l → sum_by (λ p. ahead (path_of p) i) l ≡ 0 → l ≡ []
no_first path_of i [] h e = refl
no_first path_of i (p ∷ l) h e = absurd (omega (arith, All-head (λ r. 0 < ahead (path_of r) i) p l h, sum_by-cons (λ r. ahead (path_of r) i) p l))

pub empty_hops : {P : Type 0} (path_of : P → List ℕ) (i : ℕ) (q : Queues P) → ((x : ℕ) → All (λ p. 0 < ahead (path_of p) (i + x)) (at q x)) → hops_from path_of i q ≡ 0 → (x : ℕ) → at q x ≡ []
empty_hops path_of i [] h e x = refl
empty_hops path_of i (l ∷ q) h e zero = no_first path_of i l (rw add-zero at (h 0)) (omega arith)
empty_hops path_of i (l ∷ q) h e (suc x) = empty_hops path_of (suc i) q (λ z. rw (suc-add, ← add-suc) (h (suc z))) (omega arith) x
