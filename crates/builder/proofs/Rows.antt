-- A row taken out of the lane table, changed at one level and put back. Assumes nothing.
use Rattle.std.proofs.Common.{◌≡◌, ℕ, ◌+◌, ◌-◌, ◌<◌, ◌≤◌, true, List, ◌++◌, length, take, drop, set, arith, length-drop, length-take}
use borrow.Rule.Slice.PartMut.{put_mid}
use Rattle.std.proofs.lemmas.List.{set-append_left, take-append-drop, take-set-le, drop-set-add, take_rest}
use Rattle.rack.specs.declared.rack.Rack.{Rack}
use Rattle.rack.specs.Racks.{channel_count, tail_port}
use Rattle.rack.proofs.Facts.{tail_port_within}
use Rattle.routing.specs.Turns.{turns, row_start, lane_bytes, RowsApart}
use Rattle.routing.proofs.Tests.{turns_below, turns_enters, entered}

-- a write at place s of the part of xs that begins at a and is k long is a write at place a + s of xs
pub part_set : {X : Type 0} (a k s : ℕ) (v : X) (xs ys : List X) → ys ≡ set (take k (drop a xs)) s v → s < k → a + k ≤ length xs → put_mid a k xs ys ≡ set xs (a + s) v
part_set a k s v xs ys e lt le =
    let h : s < length (take k (drop a xs)) = simp (length-take, length-drop) (omega arith) in
    let e1 = set-append_left (take k (drop a xs)) (drop k (drop a xs)) s v h in
    let e2 = take-append-drop k (drop a xs) in
    let e3 = take-append-drop a (set xs (a + s) v) in
    let e4 = take-set-le a xs (a + s) v (omega arith) in
    let e5 = drop-set-add a xs s v in
    cc

-- the sixteen bytes at place a, changed at s, in front of the rest of the part from a on
pub row_put :
    (a s v : ℕ) (xs row part : List ℕ) → a + 16 ≤ length xs → s < 16 → row ≡ set (take 16 (drop a xs)) s v → part ≡ row ++ drop 16 (take (length xs - a) (drop a xs)) →
    put_mid a (length xs - a) xs part ≡ set xs (a + s) v
row_put a s v xs row part inside low is put =
    let rest = take_rest xs a in
    let h : s < length (take 16 (drop a xs)) = simp (length-take, length-drop) (omega arith) in
    let e1 = set-append_left (take 16 (drop a xs)) (drop 16 (drop a xs)) s v h in
    let e2 = take-append-drop 16 (drop a xs) in
    let whole : part ≡ set (take (length xs - a) (drop a xs)) s v = cc in
    part_set a (length xs - a) s v xs part whole (omega arith) (omega arith)

-- the row of a turn lies inside a lane table of the full length
pub row_inside : (r : Rack) (table : List ℕ) (c d : ℕ) → turns r c d ≡ true → lane_bytes (channel_count r) ≤ length table → row_start c (tail_port r d) + 16 ≤ length table
row_inside r table c d turn long =
    let p = tail_port_within r d (turns_below r c d turn) in
    let b = (entered r c (turns_enters r c d turn)).0 in
    omega (arith, p.0, p.1, b)

pub rows_apart : RowsApart
rows_apart b c p q i j one many one' many' low low' e = (omega arith, omega arith, omega arith)
