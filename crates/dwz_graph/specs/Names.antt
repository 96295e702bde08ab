-- The names of a file's entries, by their numbers.
use Rattle.std.specs.Prelude.{ℕ, suc, ◌+◌, List, [], ◌∷◌, ◌++◌, map, Option, Some, None}
use Rattle.dwz_def_reading.specs.Documents.{DwUnit}
use Rattle.dwz_def_tops.specs.Spots.{EntryName, InType, RootOf, SpaceAt, Within, below_spots, top_count}

-- of the entries of units, in preorder: the first unit has that number, as has the first top. So the entry with a number has the name
-- that stands there in the list.
unfoldable pub names_from : ℕ → ℕ → List (DwUnit ℕ) → List EntryName
names_from unit top [] = []
names_from unit top (u ∷ units) =
    RootOf unit ∷ (map (λ x. x.1) (below_spots unit top u.kind u.below) ++ names_from (suc unit) (top + top_count u.kind u.below) units)

-- the number of the top that an entry with that name is in
abbrev pub top_in : EntryName → Option ℕ
top_in (Within top path) = Some top
top_in _ = None

-- the child indexes from it up to its top, or to the root of its unit
abbrev pub path_in : EntryName → List ℕ
path_in (Within top path) = path
path_in (SpaceAt unit path) = path
path_in (InType unit path) = path
path_in _ = []
