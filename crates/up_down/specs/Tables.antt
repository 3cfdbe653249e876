-- What the tables of an up-down source hold, and what the steps of filling them keep. Assumes nothing.
use Rattle.std.specs.Prelude.{◌≡◌, ℕ, ◌+◌, ◌-◌, ◌*◌, ◌<◌, ◌≤◌, Bool, false, cond, not, ◌&&◌, List, length, Some, None, Option, nat_lt}
use Rattle.rack.specs.declared.rack.Rack.{Rack}
use Rattle.rack.specs.Racks.{node_count, head, Leaving}
use Rattle.up_down.specs.declared.begin.Begin.{Begin}
use Rattle.up_down.specs.declared.source.UpDown.{UpDown}
use Rattle.up_down.specs.Ways.{Tiers, up, UpDownWay, Begins, BeginsShortest}
use Rattle.up_down.specs.Sources.{tier_of, begin_at}

-- a list holds the tiers of all nodes, none of them above 254
pub record TiersIn (r : Rack) (root : ℕ) (tiers : List ℕ) : Type 0 where
  pub all : length tiers ≡ node_count r
  pub exact : Tiers r root (tier_of tiers)
  pub small : (w : ℕ) → tier_of tiers w < 255

-- the place of a node in the order of tiers and then numbers: channels up lead to lower places, channels down to higher ones
abbrev pub order : Rack → (ℕ → ℕ) → ℕ → ℕ
order r tier w = tier w * node_count r + w

-- how many places there are
abbrev pub places : Rack → ℕ
places r = node_count r * 255

-- a bound for the ways that begin at node w, lower behind each channel of a way
abbrev pub most : Rack → (ℕ → ℕ) → Bool → ℕ → ℕ
most r tier down w = cond down (places r - order r tier w) (places r + order r tier w)

-- k is the fewest channels of a way from node w to node v, and within the bound; or there is no way
abbrev pub FewestIs : Rack → (ℕ → ℕ) → ℕ → Bool → ℕ → Option ℕ → Type 0
FewestIs r tier v down w None = (k : ℕ) → UpDownWay r tier v k down w → ⊥
FewestIs r tier v down w (Some k) = UpDownWay r tier v k down w × ((n : ℕ) → UpDownWay r tier v n down w → k ≤ n) × (k ≤ most r tier down w)

-- how a shortest way from node w to node v begins that begins with channel d; or no way does
abbrev pub BeginsBy : Rack → (ℕ → ℕ) → ℕ → Bool → ℕ → ℕ → Option Begin → Type 0
BeginsBy r tier v down w d None = (k : ℕ) → Begins r tier v down w k d → ⊥
BeginsBy r tier v down w d (Some b) =
    (b.first.0 ≡ d) × Begins r tier v down w b.left d × ((n : ℕ) → Begins r tier v down w n d → b.left ≤ n) × (b.left < most r tier down w)

-- how a shortest way from node w to node v begins; or there is none
abbrev pub BeginIs : Rack → (ℕ → ℕ) → ℕ → Bool → ℕ → Option Begin → Type 0
BeginIs r tier v down w None = (k d : ℕ) → Begins r tier v down w k d → ⊥
BeginIs r tier v down w (Some b) = BeginsShortest r tier v down w b.left b.first.0 × (b.left < most r tier down w)

-- the shorter of two beginnings, and the first of them where they are as long
abbrev pub shorter : Option Begin → Option Begin → Option Begin
shorter None other = other
shorter (Some b) None = Some b
shorter (Some b) (Some c) = cond (nat_lt c.left b.left) (Some c) (Some b)

-- the row of node w holds how the ways to each node begin
abbrev pub RowIs : UpDown → Bool → ℕ → Type 0
RowIs s down w = (v : ℕ) → v < node_count s.rack.now → BeginIs s.rack.now (tier_of s.tiers.items) v down w (begin_at s down w v)

-- all rows are filled that lie behind the channels by which a way may go on from node w
abbrev pub Ready : UpDown → Bool → ℕ → Type 0
Ready s down w =
    (d : ℕ) → Leaving s.rack.now w d → down && up s.rack.now (tier_of s.tiers.items) d ≡ false → RowIs s (not (up s.rack.now (tier_of s.tiers.items) d)) (head s.rack.now d)

-- the tables have a place for each pair of nodes, and the tiers are those over the root
pub record Given (root : ℕ) (s : UpDown) : Type 0 where
  pub tiers : TiersIn s.rack.now root s.tiers.items
  pub rising : length s.rising.items ≡ node_count s.rack.now * node_count s.rack.now
  pub falling : length s.falling.items ≡ node_count s.rack.now * node_count s.rack.now

-- what no filling changes
pub record Same (old new : UpDown) : Type 0 where
  pub rack : new.rack.now ≡ old.rack.now
  pub tiers : new.tiers.items ≡ old.tiers.items
  pub rising : length new.rising.items ≡ length old.rising.items
  pub falling : length new.falling.items ≡ length old.falling.items

-- row w of one table is filled, and all other rows are as they were
pub record RowFilled (down : Bool) (w : ℕ) (old new : UpDown) : Type 0 where
  pub same : Same old new
  pub row : RowIs new down w
  pub others : (d : Bool) (x v : ℕ) → x < node_count old.rack.now → v < node_count old.rack.now → ((d ≡ down) × (x ≡ w) → ⊥) → begin_at new d x v ≡ begin_at old d x v

-- all rows of one table are filled
abbrev pub AllRows : UpDown → Bool → Type 0
AllRows s down = (w : ℕ) → w < node_count s.rack.now → RowIs s down w
