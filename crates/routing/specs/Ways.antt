-- Ways through switches, true distances, and what the steps of the search for them keep. Assumes nothing.
use Rattle.std.specs.Prelude.{◌≡◌, ℕ, zero, suc, ◌+◌, ◌*◌, ◌<◌, ◌≤◌, Bool, true, false, ◌⊎◌, List, ◌≢◌, slice_index}
use Rattle.rack.specs.declared.rack.Rack.{Rack}
use Rattle.rack.specs.Racks.{node_count, head, tail, Host, Switch, Leaving, Entering}

-- there is a way of k channels from node w to node v that passes through switches only
abbrev pub Way : Rack → ℕ → ℕ → ℕ → Type 0
Way r v zero w = w ≡ v
Way r v (suc k) w = (c : ℕ) × Leaving r w c × (0 < k → Switch r (head r c)) × Way r v k (head r c)

-- d is the fewest channels of a way from w to v, or 255 where there is no way
pub record Fewest (r : Rack) (v w d : ℕ) : Type 0 where
  pub reached : d < 255 → Way r v d w
  pub shortest : (k : ℕ) → Way r v k w → d ≤ k
  pub none : d ≡ 255 → (k : ℕ) → Way r v k w → ⊥
  pub small : d ≤ 255

-- what a distance table holds: at place N w + v the fewest channels from node w to host v; 255 towards what is no host
pub record Distances (r : Rack) (table : List ℕ) : Type 0 where
  pub host : (w v : ℕ) → w < node_count r → v < node_count r → Host r v → Fewest r v w (slice_index table (node_count r * w + v))
  pub other : (w v : ℕ) → w < node_count r → v < node_count r → (Host r v → ⊥) → slice_index table (node_count r * w + v) ≡ 255

-- the column of v in a table over n nodes: what it holds from node w
abbrev pub far : ℕ → ℕ → List ℕ → ℕ → ℕ
far n v table w = slice_index table (n * w + v)

-- no place outside the column of v has changed
abbrev pub Beside : ℕ → ℕ → List ℕ → List ℕ → Type 0
Beside n v old new = (k : ℕ) → ((w : ℕ) → w < n → k ≢ n * w + v) → slice_index new k ≡ slice_index old k

-- some nodes that had no way got distance d in the column of v, each of which passes, and nothing else has changed; found says whether there was one
pub record Grown (n v d : ℕ) (pass : ℕ → Type 0) (old new : List ℕ) (found : Bool) : Type 0 where
  pub beside : Beside n v old new
  pub column : (w : ℕ) → w < n → (far n v new w ≡ far n v old w) ⊎ ((far n v old w ≡ 255) × (far n v new w ≡ d) × pass w)
  pub some : found ≡ true → (w : ℕ) × (w < n) × (far n v old w ≡ 255) × (far n v new w ≡ d)
  pub none : found ≡ false → (w : ℕ) → w < n → far n v new w ≡ far n v old w

-- a channel leads from node w to node x
abbrev pub Leads : Rack → ℕ → ℕ → Type 0
Leads r w x = (c : ℕ) × Leaving r w c × (head r c ≡ x)

-- the nodes from which a channel below the limit leads to x have a way, and those that had none got distance d
pub record Reached (r : Rack) (v x d limit : ℕ) (old new : List ℕ) (found : Bool) : Type 0 where
  pub grown : Grown (node_count r) v d (λ w. Leads r w x) old new found
  pub all : (c : ℕ) → c < limit → Entering r x c → far (node_count r) v new (tail r c) ≢ 255

-- a way to v may go on from x: x has distance d, and is v or a switch
abbrev pub Passes : Rack → ℕ → ℕ → List ℕ → ℕ → Type 0
Passes r v d table x = (far (node_count r) v table x ≡ d) × ((x ≡ v) ⊎ Switch r x)

-- the nodes from which a channel leads to one below the limit that passes have a way, and those that had none got distance d + 1
pub record Spread (r : Rack) (v d limit : ℕ) (old new : List ℕ) (found : Bool) : Type 0 where
  pub grown : Grown (node_count r) v (d + 1) (λ w. (x : ℕ) × (x < node_count r) × Passes r v d old x × Leads r w x) old new found
  pub all : (x : ℕ) → x < limit → Passes r v d old x → (w : ℕ) → Leads r w x → far (node_count r) v new w ≢ 255
