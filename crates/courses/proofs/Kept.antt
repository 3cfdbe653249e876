-- The law holds after any course. Assumes nothing.
use Rattle.std.proofs.Common.{◌≡◌, ℕ, ◌+◌, ◌<◌, Bool, true, false, ◌≢◌, ◌↔◌, List, [], ◌∷◌, ◌++◌, length, set, sum_by, filter, sym, refl, ap, ◌∙◌, subst, ⊎_elim, add-zero, zero-add, arith, length-set, get_or-set_other, get_or-set_same}
use Rattle.std.specs.Prelude.{All}
use Rattle.std.proofs.lemmas.List.Elements.{filter-append, All-head, All-tail, All-weaker}
use Rattle.std.proofs.lemmas.List.{append-nil, append_assoc}
use Rattle.std.proofs.lemmas.List.Sums.{sum_by-append}
use Rattle.std.proofs.lemmas.Bool.{cases_Bool}
use Rattle.courses.specs.Queues.{to, Rules, Queues, at, push, Admits, Forwards, Takes, Event, refused, admitted, forwarded, taken, Step, refuses, admits, forwards, takes, Course, done, then}
use Rattle.courses.specs.Law.{Routed, ahead, hops, entered, left, moves, waiting, Empty, OnWay, Placed, Law, KeepsLaw}
use Rattle.courses.proofs.Ways.{Way, Going, apart, going_of, home_of, begins, some_ahead}
use Rattle.courses.proofs.Progress.{way_of, alive}
use Rattle.courses.proofs.Sets.{some_queue, each_set, each_push, kept_push_no, kept_leave_no, kept_first, hops_push, hops_leave, hops_empty, empty_hops}
use Rattle.courses.proofs.Rows.{row_same, row_enter, row_forward, row_home}

moves_more : {P : Type 0} (a : Event P) (rs : List (Event P)) → moves (a ∷ rs) ≡ moves (a ∷ []) + moves rs
moves_more refused rs = omega arith
moves_more (admitted p) rs = omega arith
moves_more forwarded rs = omega arith
moves_more (taken p) rs = omega arith

entered_more : {P : Type 0} (a : Event P) (rs : List (Event P)) → entered (a ∷ rs) ≡ entered (a ∷ []) ++ entered rs
entered_more refused rs = refl
entered_more (admitted p) rs = refl
entered_more forwarded rs = refl
entered_more (taken p) rs = refl

left_more : {P : Type 0} (a : Event P) (rs : List (Event P)) → left (a ∷ rs) ≡ left (a ∷ []) ++ left rs
left_more refused rs = refl
left_more (admitted p) rs = refl
left_more forwarded rs = refl
left_more (taken p) rs = refl

module _ {P : Type 0} (rules : Rules P) (count : ℕ) (path_of : P → List ℕ) (routed : Routed rules count path_of) where
  -- what a first packet finds ahead
  first_placed : (q : Queues P) (x : ℕ) (p : P) (rest : List P) → Placed rules path_of q → at q x ≡ p ∷ rest → All (OnWay rules path_of x) (p ∷ rest)
  first_placed q x p rest placed e = subst (All (OnWay rules path_of x)) e (placed x)

  -- what answers say of the queues before and after
  record Kept (q : Queues P) (rs : List (Event P)) (q' : Queues P) : Type 0 where
    sized : length q' ≡ length q
    placed : Placed rules path_of q'
    counted : moves rs + hops path_of q' ≡ hops path_of q + sum_by (λ p. length (path_of p)) (entered rs)
    ordered : (test : P → Bool) (xs : List ℕ) → ((p : P) (x : ℕ) → test p ≡ true → rules.start p ≡ to x → path_of p ≡ xs) → waiting test xs q ++ filter test (entered rs) ≡ filter test (left rs) ++ waiting test xs q'

  admitted_kept : (q : Queues P) (p : P) (q' : Queues P) → Placed rules path_of q → Admits rules q p q' → Kept q (admitted p ∷ []) q'
  admitted_kept q p q' placed m = subst (Kept q (admitted p ∷ [])) (sym m.after) (record {
    sized = length-set q s (at q s ++ (p ∷ []));
    placed = each_push (OnWay rules path_of) q s p placed (record { first = s; starts = m.starts; some_ahead = some_ahead c });
    counted = omega (arith, hops_push path_of q s p m.there, begins c);
    ordered = λ test xs same. ⊎_elim (λ (e : test p ≡ true). in_order test xs (same p s e m.starts) e) (aside test xs) (cases_Bool (test p));
  })
    where
      s : ℕ
      s = m.into

      c : Way rules count p s (path_of p)
      c = way_of rules count path_of routed p s m.starts

      in_order : (test : P → Bool) (xs : List ℕ) → path_of p ≡ xs → test p ≡ true → waiting test xs q ++ filter test (p ∷ []) ≡ waiting test xs (push q s p)
      in_order test xs r e =
          let one : filter test (p ∷ []) ≡ p ∷ [] = kept_first test p [] true e in
          let pushed : filter test (at (push q s p) s) ≡ filter test (at q s) ++ (p ∷ []) =
          ap (filter test) (get_or-set_same q s (at q s ++ (p ∷ [])) [] m.there) ∙ filter-append test (at q s) (p ∷ []) ∙ ap (λ l. filter test (at q s) ++ l) one in
          let row = row_enter (λ z. filter test (at q z)) (λ z. filter test (at (push q s p) z)) c pushed (λ z h ne. ap (filter test) (get_or-set_other q s z (at q s ++ (p ∷ [])) [] ne)) in
          subst (λ ys. waiting test ys q ++ filter test (p ∷ []) ≡ waiting test ys (push q s p)) r (ap (λ l. waiting test (path_of p) q ++ l) one ∙ sym row)

      aside : (test : P → Bool) (xs : List ℕ) → test p ≡ false → waiting test xs q ++ filter test (p ∷ []) ≡ waiting test xs (push q s p)
      aside test xs e =
          ap (λ l. waiting test xs q ++ l) (kept_first test p [] false e) ∙ append-nil (waiting test xs q)
          ∙ sym (row_same (λ z. filter test (at q z)) (λ z. filter test (at (push q s p) z)) xs (λ z h. kept_push_no test q s p e z))

  forwarded_kept : (q : Queues P) (x : ℕ) (q' : Queues P) → Placed rules path_of q → Forwards rules q x q' → Kept q (forwarded ∷ []) q'
  forwarded_kept q x q' placed m = subst (Kept q (forwarded ∷ [])) (sym m.after) (record {
    sized = length-set q₁ y (at q₁ y ++ (p ∷ [])) ∙ length-set q x rest;
    placed = each_push (OnWay rules path_of) q₁ y p (each_set (OnWay rules path_of) q x rest placed behind) (record { first = on.first; starts = on.starts; some_ahead = rise.on_path });
    counted = omega (arith, hops_push path_of q₁ y p there, hops_leave path_of q x p rest m.first, rise.one_less);
    ordered = λ test xs same. append-nil (waiting test xs q) ∙ ⊎_elim (λ (e : test p ≡ true). in_order test xs (same p on.first e on.starts) e) (aside test xs) (cases_Bool (test p));
  })
    where
      p : P
      p = m.packet

      rest : List P
      rest = m.rest

      y : ℕ
      y = m.next

      q₁ : Queues P
      q₁ = set q x rest

      on : OnWay rules path_of x p
      on = All-head (OnWay rules path_of x) p rest (first_placed q x p rest placed m.first)

      behind : All (OnWay rules path_of x) rest
      behind = All-tail (OnWay rules path_of x) p rest (first_placed q x p rest placed m.first)

      c : Way rules count p on.first (path_of p)
      c = way_of rules count path_of routed p on.first on.starts

      rise : Going count (path_of p) x y
      rise = going_of c x y on.some_ahead m.leads

      there : y < length q₁
      there = omega (arith, m.there, length-set q x rest)

      other : y ≢ x
      other = apart count (path_of p) x y rise

      in_order : (test : P → Bool) (xs : List ℕ) → path_of p ≡ xs → test p ≡ true → waiting test xs q ≡ waiting test xs (push q₁ y p)
      in_order test xs r e =
          let q₂ = push q₁ y p in
          let at_x : at q₂ x ≡ rest = get_or-set_other q₁ y x (at q₁ y ++ (p ∷ [])) [] (λ u. other (sym u)) ∙ get_or-set_same q x rest [] (some_queue q x p rest m.first) in
          let at_y : at q₂ y ≡ at q y ++ (p ∷ []) = get_or-set_same q₁ y (at q₁ y ++ (p ∷ [])) [] there ∙ ap (λ l. l ++ (p ∷ [])) (get_or-set_other q x y rest [] other) in
          let first : filter test (at q x) ≡ p ∷ filter test (at q₂ x) = ap (filter test) m.first ∙ kept_first test p rest true e ∙ ap (λ l. p ∷ filter test l) (sym at_x) in
          let pushed : filter test (at q₂ y) ≡ filter test (at q y) ++ (p ∷ []) = ap (filter test) at_y ∙ filter-append test (at q y) (p ∷ []) ∙ ap (λ l. filter test (at q y) ++ l) (kept_first test p [] true e) in
          let row = row_forward (λ z. filter test (at q z)) (λ z. filter test (at q₂ z)) c x y on.some_ahead m.leads first pushed
          (λ z ne_x ne_y. ap (filter test) (get_or-set_other q₁ y z (at q₁ y ++ (p ∷ [])) [] ne_y ∙ get_or-set_other q x z rest [] ne_x)) in
          subst (λ ys. waiting test ys q ≡ waiting test ys q₂) r (sym row)

      aside : (test : P → Bool) (xs : List ℕ) → test p ≡ false → waiting test xs q ≡ waiting test xs (push q₁ y p)
      aside test xs e =
          sym (row_same (λ z. filter test (at q z)) (λ z. filter test (at (push q₁ y p) z)) xs (λ z h. kept_push_no test q₁ y p e z ∙ kept_leave_no test q x p rest m.first e z))

  taken_kept : (q : Queues P) (x : ℕ) (p : P) (q' : Queues P) → Placed rules path_of q → Takes rules q x p q' → Kept q (taken p ∷ []) q'
  taken_kept q x p q' placed m = subst (Kept q (taken p ∷ [])) (sym m.after) (record {
    sized = length-set q x rest;
    placed = each_set (OnWay rules path_of) q x rest placed behind;
    counted = omega (arith, hops_leave path_of q x p rest m.first, home_of c x on.some_ahead m.ends);
    ordered = λ test xs same. append-nil (waiting test xs q) ∙ ⊎_elim (λ (e : test p ≡ true). in_order test xs (same p on.first e on.starts) e) (aside test xs) (cases_Bool (test p));
  })
    where
      rest : List P
      rest = m.rest

      on : OnWay rules path_of x p
      on = All-head (OnWay rules path_of x) p rest (first_placed q x p rest placed m.first)

      behind : All (OnWay rules path_of x) rest
      behind = All-tail (OnWay rules path_of x) p rest (first_placed q x p rest placed m.first)

      c : Way rules count p on.first (path_of p)
      c = way_of rules count path_of routed p on.first on.starts

      in_order : (test : P → Bool) (xs : List ℕ) → path_of p ≡ xs → test p ≡ true → waiting test xs q ≡ filter test (p ∷ []) ++ waiting test xs (set q x rest)
      in_order test xs r e =
          let q₁ = set q x rest in
          let at_x : at q₁ x ≡ rest = get_or-set_same q x rest [] (some_queue q x p rest m.first) in
          let first : filter test (at q x) ≡ p ∷ filter test (at q₁ x) = ap (filter test) m.first ∙ kept_first test p rest true e ∙ ap (λ l. p ∷ filter test l) (sym at_x) in
          let row = row_home (λ z. filter test (at q z)) (λ z. filter test (at q₁ z)) c x on.some_ahead m.ends first (λ z ne. ap (filter test) (get_or-set_other q x z rest [] ne)) in
          subst (λ ys. waiting test ys q ≡ filter test (p ∷ []) ++ waiting test ys q₁) r (row ∙ ap (λ l. l ++ waiting test (path_of p) q₁) (sym (kept_first test p [] true e)))

      aside : (test : P → Bool) (xs : List ℕ) → test p ≡ false → waiting test xs q ≡ filter test (p ∷ []) ++ waiting test xs (set q x rest)
      aside test xs e =
          sym (row_same (λ z. filter test (at q z)) (λ z. filter test (at (set q x rest) z)) xs (λ z h. kept_leave_no test q x p rest m.first e z))
          ∙ ap (λ l. l ++ waiting test xs (set q x rest)) (sym (kept_first test p [] false e))

  step_kept : (q : Queues P) {e : Event P} {q' : Queues P} → Placed rules path_of q → Step rules q e q' → Kept q (e ∷ []) q'
  step_kept q placed (admits {p} {q'} m) = admitted_kept q p q' placed m
  step_kept q placed (forwards {x} {q'} m) = forwarded_kept q x q' placed m
  step_kept q placed (takes {x} {p} {q'} m) = taken_kept q x p q' placed m
  step_kept q placed refuses = record { sized = refl; placed = placed; counted = omega arith; ordered = λ test xs same. append-nil (waiting test xs q) }

  none_kept : (q : Queues P) → Placed rules path_of q → Kept q [] q
  none_kept q placed = record { sized = refl; placed = placed; counted = omega arith; ordered = λ test xs same. append-nil (waiting test xs q) }

  more_kept : (q q' q'' : Queues P) (a : Event P) (rs : List (Event P)) → Kept q (a ∷ []) q' → Kept q' rs q'' → Kept q (a ∷ rs) q''
  more_kept q q' q'' a rs k l = record {
    sized = l.sized ∙ k.sized;
    placed = l.placed;
    counted = omega (arith, k.counted, l.counted, moves_more a rs, ap (sum_by (λ p. length (path_of p))) (entered_more a rs), sum_by-append (λ p. length (path_of p)) (entered (a ∷ [])) (entered rs));
    ordered = λ test xs same.
        let before = waiting test xs q in
        let between = waiting test xs q' in
        let after = waiting test xs q'' in
        let e₁ = filter test (entered (a ∷ [])) in
        let e₂ = filter test (entered rs) in
        let l₁ = filter test (left (a ∷ [])) in
        let l₂ = filter test (left rs) in
        let in_parts : filter test (entered (a ∷ rs)) ≡ e₁ ++ e₂ = ap (filter test) (entered_more a rs) ∙ filter-append test (entered (a ∷ [])) (entered rs) in
        let out_parts : filter test (left (a ∷ rs)) ≡ l₁ ++ l₂ = ap (filter test) (left_more a rs) ∙ filter-append test (left (a ∷ [])) (left rs) in
        ap (λ t. before ++ t) in_parts ∙ sym (append_assoc before e₁ e₂) ∙ ap (λ t. t ++ e₂) (k.ordered test xs same) ∙ append_assoc l₁ between e₂ ∙ ap (λ t. l₁ ++ t) (l.ordered test xs same)
        ∙ sym (append_assoc l₁ l₂ after) ∙ ap (λ t. t ++ after) (sym out_parts);
  }

  course_kept : {q : Queues P} {rs : List (Event P)} {q' : Queues P} → Placed rules path_of q → Course rules q rs q' → Kept q rs q'
  course_kept placed (done {q}) = none_kept q placed
  course_kept placed (then {q} {q'} {q''} {e = a} {es = rs} s r) = let k = step_kept q placed s in more_kept q q' q'' a rs k (course_kept k.placed r)

  some_hops : (q : Queues P) → Placed rules path_of q → (x : ℕ) → All (λ p. 0 < ahead (path_of p) (0 + x)) (at q x)
  some_hops q placed x = rw zero-add (All-weaker (OnWay rules path_of x) (λ p. 0 < ahead (path_of p) x) (λ p o. o.some_ahead) (at q x) (placed x))

  law : (q q' : Queues P) (events : List (Event P)) → length q ≡ count → Placed rules path_of q → Course rules q events q' → Law rules path_of q events q'
  law q q' events sized placed course = record {
    placed = k.placed;
    alive = alive rules count path_of routed q' (k.sized ∙ sized) k.placed;
    counted = k.counted;
    settled = settles;
    drained = λ no_more.
        let same : moves events + hops path_of q' ≡ hops path_of q = k.counted ∙ rw (no_more, add-zero) in
        (λ none. omega (arith, settles.0 none), λ all_moved. settles.1 (omega arith));
    ordered = k.ordered;
  }
    where
      k : Kept q events q'
      k = course_kept placed course

      settles : Empty q' ↔ (hops path_of q' ≡ 0)
      settles = (λ none. hops_empty path_of 0 q' none, λ none. empty_hops path_of 0 q' (some_hops q' k.placed) none)

pub keeps_law : (P : Type 0) → KeepsLaw P
keeps_law P rules path_of q q' events routed placed course = law rules (length q) path_of routed q q' events refl placed course
