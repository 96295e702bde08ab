-- What a round gives.
use Rattle.std.specs.Prelude.{◌≡◌, ℕ, ◌<◌, List, length, slice_index}
use Rattle.dwz_nodes.specs.Graph.{Node}
use Rattle.dwz_nodes.specs.Looks.{LookEqual, IsLeastBelow}
use Rattle.dwz_nodes.specs.Keys.{key, key_at}

-- each entry is the least place with an equal key
pub record AreFirsts (keys : List (List ℕ)) (firsts : List ℕ) : Type 0 where
  pub len : length firsts ≡ length keys
  pub each : (a : ℕ) → a < length keys → IsLeastBelow (length keys) (λ b. key_at keys a ≡ key_at keys b) (slice_index firsts a)

-- the next class of each node is the least node with an equal key
pub record IsRound (g : List Node) (classes next : List ℕ) : Type 0 where
  pub len : length next ≡ length g
  pub each : (a : ℕ) → a < length g → IsLeastBelow (length g) (λ b. key g classes a ≡ key g classes b) (slice_index next a)

-- the class of each node is the least node that a look of depth k finds equal to it
pub record IsLevel (g : List Node) (k : ℕ) (classes : List ℕ) : Type 0 where
  pub len : length classes ≡ length g
  pub each : (a : ℕ) → a < length g → IsLeastBelow (length g) (LookEqual g k a) (slice_index classes a)
