-- What the eight bytes of a record say. Assumes nothing.
use Rattle.std.specs.Prelude.{ℕ, ◌+◌, ◌*◌, Bool, cond, ◌&&◌, List, length, Some, None, Option, ◌==◌, slice_index}
use Rattle.std.specs.List.{between}
use Rattle.reading.specs.declared.record.Record.{Record}
use Rattle.reading.specs.declared.record.Record.TheVariants.{Node, Joins, Forwards}
use Rattle.rack.specs.declared.kind.Kind.TheVariants.{Host, Switch}
use Rattle.rack.specs.declared.cable.End.{End}

-- a two-byte number, high byte first
abbrev pub word : ℕ → ℕ → ℕ
word high low = high * 256 + low

-- a port of the node whose number the two bytes are
abbrev pub end_at : ℕ → ℕ → ℕ → End
end_at high low p = record { node = record { 0 = word high low }; port = record { 0 = p } }

-- bytes 3 to 7 are zero
abbrev pub spare : List ℕ → Bool
spare b = slice_index b 3 == 0 && slice_index b 4 == 0 && slice_index b 5 == 0 && slice_index b 6 == 0 && slice_index b 7 == 0

-- x where the test holds, else nothing
abbrev pub when : {X : Type 0} → Bool → X → Option X
when t x = cond t (Some x) None

-- what eight bytes say, by their kind, where the spare bytes are zero: 72 a host, 83 a switch, 67 a cable, 70 a forwarding entry
abbrev pub spelled : List ℕ → Option Record
spelled b =
    cond (slice_index b 0 == 72) (when (spare b) (Node Host (record { 0 = word (slice_index b 1) (slice_index b 2) })))
    (cond (slice_index b 0 == 83) (when (spare b) (Node Switch (record { 0 = word (slice_index b 1) (slice_index b 2) })))
    (cond (slice_index b 0 == 67) (when (slice_index b 7 == 0) (Joins (record {
      first = end_at (slice_index b 1) (slice_index b 2) (slice_index b 3);
      second = end_at (slice_index b 4) (slice_index b 5) (slice_index b 6);
    })))
    (cond (slice_index b 0 == 70) (when (slice_index b 6 == 0 && slice_index b 7 == 0) (Forwards (record {
      switch = record { 0 = word (slice_index b 1) (slice_index b 2) };
      host = record { 0 = word (slice_index b 3) (slice_index b 4) };
      port = record { 0 = slice_index b 5 };
    })))
    None)))

-- what a run of bytes says: nothing unless it is eight long
abbrev pub decoded : List ℕ → Option Record
decoded b = cond (length b == 8) (spelled b) None

-- what record i of the file says
abbrev pub said : List ℕ → ℕ → Option Record
said f i = decoded (between (8 * i) (8 * i + 8) f)
