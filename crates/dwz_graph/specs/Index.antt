-- What an index shows of the entries of a file.
use Rattle.std.specs.Prelude.{◌≡◌, ℕ, suc, ◌+◌, ◌<◌, List, [], ◌∷◌, length, map, Some, slice_get}
use Rattle.dwz_def_reading.specs.Documents.{DwUnit}
use Rattle.dwz_def_tops.specs.Spots.{EntryName, InType, RootOf, SpaceAt, Within}
use Rattle.dwz_graph.specs.declared.index.SpaceEntry.{SpaceEntry}
use Rattle.dwz_graph.specs.declared.index.Starts.{Starts}
use Rattle.dwz_graph.specs.declared.index.Step.{Step}
use Rattle.dwz_graph.specs.declared.index.TopEntry.{TopEntry}
use Rattle.dwz_graph.specs.Steps.{all_spaces, all_steps, all_tops, below_root, is_space}

-- what is kept: of each entry the way up, the tops, the spaces, and the numbers that the file begins with
pub record Index : Type 0 where
  pub steps : List Step
  pub tops : List TopEntry
  pub spaces : List SpaceEntry
  pub starts : Starts

-- the numbers behind a file with so many units
abbrev pub next_starts : Index → ℕ → Starts
next_starts x units = record { unit = x.starts.unit + units; top = x.starts.top + length x.tops; space = x.starts.space + length x.spaces }

-- the name of what is above an entry in no top
abbrev pub above : (ℕ → List ℕ → EntryName) → ℕ → List ℕ → EntryName
above name unit [] = RootOf unit
above name unit (k ∷ path) = name unit (k ∷ path)

-- the entry with a number has an index below an earlier one, which has that name
pub record IsBelow (names : List EntryName) (i : ℕ) (x : Step) (k : ℕ) (parent : EntryName) : Type 0 where
  pub index : x.index ≡ k
  pub name : slice_get names x.up ≡ Some parent
  pub earlier : x.up < i

-- The entry with a number has that name: one more than the number of its top is kept, or 0 where it is in none. A top and a root lead to
-- themselves.
abbrev pub Shows : List EntryName → ℕ → Step → EntryName → Type 0
Shows names i x (Within top []) = (x.top ≡ suc top) × (x.up ≡ i)
Shows names i x (Within top (k ∷ path)) = (x.top ≡ suc top) × IsBelow names i x k (Within top path)
Shows names i x (SpaceAt unit (k ∷ path)) = (x.top ≡ 0) × IsBelow names i x k (above SpaceAt unit path)
Shows names i x (InType unit (k ∷ path)) = (x.top ≡ 0) × IsBelow names i x k (above InType unit path)
Shows names i x _ = (x.top ≡ 0) × (x.up ≡ i)

-- the entries have these names, by their numbers
pub record IsIndex (names : List EntryName) (x : Index) : Type 0 where
  pub len : length x.steps ≡ length names
  pub each : (i : ℕ) (s : Step) (name : EntryName) → slice_get x.steps i ≡ Some s → slice_get names i ≡ Some name → Shows names i s name

-- the ways up, the tops and the spaces are those of the units, which begin with these numbers
pub record HasTops (starts : Starts) (units : List (DwUnit ℕ)) (x : Index) : Type 0 where
  pub starts_are : x.starts ≡ starts
  pub steps_are : x.steps ≡ all_steps is_space starts 0 (map below_root units)
  pub tops_are : x.tops ≡ all_tops is_space starts 0 (map below_root units)
  pub spaces_are : x.spaces ≡ all_spaces is_space starts 0 (map below_root units)
