-- Whether a path fits at a level, and what it claims there, middle turn by middle turn. Assumes nothing.
use Rattle.std.proofs.Common.{◌≡◌, ℕ, ◌+◌, ◌-◌, ◌<◌, ◌≤◌, true, ◌⊎◌, List, length, get_or, set, sym, ◌∙◌, subst, ⊎_elim, arith, length-set, get_or-set_other, get_or-set_same}
use Rattle.std.proofs.lemmas.List.{length-map, get_or-map}
use Rattle.std.proofs.lemmas.Bool.{cases_eq}
use Rattle.rack.specs.declared.rack.Rack.{Rack}
use Rattle.rack.specs.Racks.{channel_count, tail_port}
use Rattle.rack.proofs.Facts.{tail_port_within}
use Rattle.routing.specs.declared.walk.Step.{Step}
use Rattle.routing.specs.Turns.{turns, row_start, stored_lane, lane_bytes, RowsApart}
use Rattle.routing.proofs.Tests.{turns_below}
use Rattle.builder.specs.Method.{channel_of, channels_of, Middle, Passes, entry_of, entry_place, Fits, Claimed}
use Rattle.builder.proofs.Rows.{row_inside}

-- the steps' channels
pub at_step : (steps : List Step) (i : ℕ) (d : Step) → i < length steps → get_or (channels_of steps) i 0 ≡ (get_or steps i d).channel.0
at_step steps i d h = get_or-map channel_of steps i d 0 h

pub as_long : (steps : List Step) → length (channels_of steps) ≡ length steps
as_long steps = length-map steps channel_of

-- the middle turns below n have room
abbrev pub Room : Rack → List ℕ → List ℕ → ℕ → ℕ → Type 0
Room r lanes path s j = (entry_of r lanes path s j ≡ 0) ⊎ (entry_of r lanes path s j ≡ j)

pub record Fitting (r : Rack) (lanes path : List ℕ) (s n : ℕ) : Type 0 where
  pub room : (j : ℕ) → 1 ≤ j → j < n → Room r lanes path s j

-- the middle turns below n have their lanes, and all else is as it was
pub record Claiming (r : Rack) (path : List ℕ) (s n : ℕ) (was now : List ℕ) : Type 0 where
  pub long : length now ≡ length was
  pub within : (j : ℕ) → 1 ≤ j → j < n → Middle path j
  pub given : (j : ℕ) → 1 ≤ j → j < n → get_or now (entry_place r path s j) 0 ≡ j
  pub kept : (k : ℕ) → ((j : ℕ) → 1 ≤ j → j < n → k ≡ entry_place r path s j → ⊥) → get_or now k 0 ≡ get_or was k 0

module _ (r : Rack) (path : List ℕ) (s : ℕ) where
  module _ (lanes : List ℕ) where
    pub fitting_more : (n : ℕ) → Fitting r lanes path s n → Room r lanes path s n → Fitting r lanes path s (n + 1)
    fitting_more n f here =
        record { room = λ j a b. ⊎_elim (λ (e : j ≡ n). subst (Room r lanes path s) (sym e) here) (λ (ne : j ≡ n → ⊥). f.room j a (omega arith)) (cases_eq j n) }

    pub fitting_fails : (n : ℕ) → 1 ≤ n → n < length path - 2 → (Room r lanes path s n → ⊥) → Fits r lanes path s → ⊥
    fitting_fails n a b none fits = none (fits n (a, omega arith))

  -- two middle turns never share a byte of the lane table
  pub places_apart : RowsApart → Passes r path → s < 16 → (i j : ℕ) → Middle path i → Middle path j → entry_place r path s i ≡ entry_place r path s j → i ≡ j
  places_apart rows pass low i j m n e =
      let p = tail_port_within r _ (turns_below r _ _ (pass.turning i m)) in
      let q = tail_port_within r _ (turns_below r _ _ (pass.turning j n)) in
      pass.once i j (omega (arith, m.1)) (omega (arith, n.1)) (rows _ _ _ _ s s p.0 p.1 q.0 q.1 low low e).0

  pub claiming_more :
      RowsApart → Passes r path → s < 16 → (n : ℕ) (was now : List ℕ) → Middle path n → lane_bytes (channel_count r) ≤ length now → Claiming r path s n was now →
      Claiming r path s (n + 1) was (set now (entry_place r path s n) n)
  claiming_more rows pass low n was now m long f =
      let inside = row_inside r now _ _ (pass.turning n m) long in
      let at = entry_place r path s n in
      record {
        long = length-set now at n ∙ f.long;
        within = λ j a b. (a, omega (arith, m.1));
        given = λ j a b.
            ⊎_elim
            (λ (e : j ≡ n). subst (λ i. get_or (set now at n) (entry_place r path s i) 0 ≡ i) (sym e) (get_or-set_same now at n 0 (omega arith)))
            (λ (ne : j ≡ n → ⊥). get_or-set_other now at _ n 0 (λ q. ne (places_apart rows pass low j n (a, omega (arith, m.1)) m q)) ∙ f.given j a (omega arith))
            (cases_eq j n);
        kept = λ k h. get_or-set_other now at k n 0 (λ q. h n m.0 (omega arith) q) ∙ f.kept k (λ j a b. h j a (omega arith));
      }

  pub claiming_end : (n : ℕ) (was now : List ℕ) → length path - 2 ≤ n → Claiming r path s n was now → Claimed r path s was now
  claiming_end n was now all f =
      record {
        long = f.long;
        given = λ j m. f.given j m.0 (omega (arith, m.1));
        kept = λ k h. f.kept k (λ j a b. h j (f.within j a b));
      }

-- one middle turn, by its two steps
module _ (r : Rack) (steps : List Step) (j : ℕ) (x y : Step) (first : 1 ≤ j) (last : j < length steps - 2) where
  pub middle_at : Middle (channels_of steps) j
  middle_at = (first, omega (arith, as_long steps))

  from_channel : get_or (channels_of steps) j 0 ≡ (get_or steps j x).channel.0
  from_channel = at_step steps j x (omega arith)

  to_channel : get_or (channels_of steps) (j + 1) 0 ≡ (get_or steps (j + 1) y).channel.0
  to_channel = at_step steps (j + 1) y (omega arith)

  pub turn_at : Passes r (channels_of steps) → turns r (get_or steps j x).channel.0 (get_or steps (j + 1) y).channel.0 ≡ true
  turn_at pass = rw (sym from_channel, sym to_channel) (pass.turning j middle_at)

  pub own_at : (lanes : List ℕ) (s n : ℕ) → n ≡ stored_lane r lanes (get_or steps j x).channel.0 (get_or steps (j + 1) y).channel.0 s → n ≡ entry_of r lanes (channels_of steps) s j
  own_at lanes s n e = rw (sym from_channel, sym to_channel) at e

  pub claim_at : (lanes now : List ℕ) (s n : ℕ) → n ≡ j → now ≡ set lanes (row_start (get_or steps j x).channel.0 (tail_port r (get_or steps (j + 1) y).channel.0) + s) n → now ≡ set lanes (entry_place r (channels_of steps) s j) j
  claim_at lanes now s n e h = subst (λ m. now ≡ set lanes (entry_place r (channels_of steps) s j) m) e (rw (sym from_channel, sym to_channel) at h)
