-- Which tops of a file their own entries bind, where names stand for places.
use Rattle.std.specs.Prelude.{◌≡◌, ℕ, Bool, List, map, ◌||◌}
use Rattle.dwz_def_reading.specs.Documents.{DwUnit, entries_map, node_map}
use Rattle.dwz_def_tops.specs.Alike.{any_entry, entry_binds}
use Rattle.dwz_def_tops.specs.Spots.{EntryName, Top}
use Rattle.dwz_def_check.specs.CrossNames.{cross_tops}
use Rattle.dwz_def_cross.specs.Tops.{CrossTop}

-- an entry of the top binds it, which is of the unit with that number
abbrev pub tree_binds : List Top → ℕ → (ℕ → EntryName) → CrossTop ℕ → Bool
tree_binds tops unit name t = entry_binds tops unit (node_map name t.node) || any_entry (entry_binds tops unit) (entries_map name t.below)

-- so of each top of the file, in order
abbrev pub AreBinding : List Top → ℕ → (ℕ → EntryName) → List (DwUnit ℕ) → List Bool → Type 0
AreBinding tops unit name said flags = flags ≡ map (tree_binds tops unit name) (cross_tops said)
