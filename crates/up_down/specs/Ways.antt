-- Tiers over a root switch, and the ways that go up and then down. Assumes nothing.
use Rattle.std.specs.Prelude.{◌≡◌, ℕ, zero, suc, ◌<◌, ◌≤◌, Bool, false, not, ◌&&◌, ◌||◌, ◌==◌, nat_lt}
use Rattle.rack.specs.declared.rack.Rack.{Rack}
use Rattle.rack.specs.Racks.{node_count, head, tail, Leaving}

-- a way of k channels leads from node w to node v
abbrev pub PlainWay : Rack → ℕ → ℕ → ℕ → Type 0
PlainWay r v zero w = w ≡ v
PlainWay r v (suc k) w = (c : ℕ) × Leaving r w c × PlainWay r v k (head r c)

-- the tiers of a rack: tier w is the fewest channels, and so the fewest cables, of a way from node w to the root
abbrev pub Tiers : Rack → ℕ → (ℕ → ℕ) → Type 0
Tiers r root tier = (w : ℕ) → w < node_count r → PlainWay r root (tier w) w × ((k : ℕ) → PlainWay r root k w → tier w ≤ k)

-- whether channel c is up: its head has fewer cables to the root than its tail, or as many and a smaller number
abbrev pub up : Rack → (ℕ → ℕ) → ℕ → Bool
up r tier c = nat_lt (tier (head r c)) (tier (tail r c)) || (tier (head r c) == tier (tail r c) && nat_lt (head r c) (tail r c))

-- a way of k channels leads from node w to node v and goes up no more once it has gone down; `down` says whether it has
abbrev pub UpDownWay : Rack → (ℕ → ℕ) → ℕ → ℕ → Bool → ℕ → Type 0
UpDownWay r tier v zero down w = w ≡ v
UpDownWay r tier v (suc k) down w = (c : ℕ) × Leaving r w c × (down && up r tier c ≡ false) × UpDownWay r tier v k (not (up r tier c)) (head r c)

-- channel d begins such a way, with k more channels behind it
abbrev pub Begins : Rack → (ℕ → ℕ) → ℕ → Bool → ℕ → ℕ → ℕ → Type 0
Begins r tier v down w k d = Leaving r w d × (down && up r tier d ≡ false) × UpDownWay r tier v k (not (up r tier d)) (head r d)

-- channel d, with k more behind it, begins a shortest such way, and is the lowest-numbered channel that does
pub record BeginsShortest (r : Rack) (tier : ℕ → ℕ) (v : ℕ) (down : Bool) (w k d : ℕ) : Type 0 where
  pub begins : Begins r tier v down w k d
  pub shortest : (n e : ℕ) → Begins r tier v down w n e → k ≤ n
  pub lowest : (e : ℕ) → Begins r tier v down w k e → d ≤ e

-- nodes all connect: from each of them a way leads to every other
abbrev pub Connected : Rack → Type 0
Connected r = (v w : ℕ) → v < node_count r → w < node_count r → (k : ℕ) × PlainWay r v k w
