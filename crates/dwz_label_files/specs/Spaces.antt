-- Inner: spaces one after the other outward. No public clause cites it.
use Rattle.std.specs.Prelude.{◌≡◌, ℕ, suc, ◌+◌, List, Option, Some, None, slice_get}
use Rattle.dwz_graph.specs.declared.index.SpaceEntry.{SpaceEntry}

-- the space before a number, where there is one; the first has that number
abbrev pub IsBefore : ℕ → List SpaceEntry → ℕ → Option SpaceEntry → Type 0
IsBefore first spaces k (Some x) = (j : ℕ) × (k ≡ suc (first + j)) × (slice_get spaces j ≡ Some x)
IsBefore first spaces k None = (j : ℕ) (x : SpaceEntry) → k ≡ suc (first + j) → slice_get spaces j ≡ Some x → ⊥
