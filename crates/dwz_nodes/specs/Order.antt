-- Nodes in the order of their keys.
use Rattle.std.specs.Prelude.{◌≡◌, ℕ, suc, ◌<◌, ◌≤◌, true, false, Bool, List, length, map, slice_index, slice_index_or}
use Rattle.dwz_nodes.specs.Keys.{key_at}
use Rattle.dwz_nodes.specs.declared.order.Keyed.{Keyed}

-- the nodes of rows, and their keys
abbrev pub nodes_of : List Keyed → List ℕ
nodes_of rows = map (λ r. r.node) rows

abbrev pub keys_of : List Keyed → List (List ℕ)
keys_of rows = map (λ r. r.key.now) rows

-- rows with one key stand together, and their nodes ascend
pub record AreTogether (rows : List Keyed) : Type 0 where
  pub between : (i j k : ℕ) → i ≤ j → j ≤ k → k < length rows → key_at (keys_of rows) i ≡ key_at (keys_of rows) k
      → key_at (keys_of rows) j ≡ key_at (keys_of rows) k
  pub rising : (i j : ℕ) → i ≤ j → j < length rows → key_at (keys_of rows) i ≡ key_at (keys_of rows) j
      → slice_index (nodes_of rows) i ≤ slice_index (nodes_of rows) j

-- whether the key at i is another one than all before it, or that of the place before
pub record IsNew (key : ℕ → List ℕ) (is_new : Bool) (i : ℕ) : Type 0 where
  pub new : is_new ≡ true → (j : ℕ) → j < i → ¬ (key j ≡ key i)
  pub again : is_new ≡ false → (j : ℕ) × (i ≡ suc j) × (key j ≡ key i)

-- the same, told beside it
abbrev pub IsNewAt : (ℕ → List ℕ) → List Bool → ℕ → Type 0
IsNewAt key news i = IsNew key (slice_index_or news i false) i

-- the nodes of the rows, and beside each whether its key is new
pub record AreGroups (rows : List Keyed) (nodes : List ℕ) (news : List Bool) : Type 0 where
  pub together : AreTogether rows
  pub nodes_are : nodes ≡ nodes_of rows
  pub len : length news ≡ length rows
  pub each : (i : ℕ) → i < length rows → IsNewAt (λ j. key_at (keys_of rows) j) news i
