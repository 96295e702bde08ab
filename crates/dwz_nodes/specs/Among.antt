-- Nodes in a list.
use Rattle.std.specs.Prelude.{◌≡◌, ℕ, ◌<◌, List, length, slice_index}

-- the node stands in the list
abbrev pub Among : List ℕ → ℕ → Type 0
Among todo n = (i : ℕ) × (i < length todo) × (slice_index todo i ≡ n)
