-- The declarations of entries, by number.
use Rattle.std.specs.Prelude.{◌≡◌, ℕ, List, Some, map, slice_get}
use Rattle.dwz_model.specs.declared.place.Pair.{Pair}
use Rattle.dwz_unit.specs.Known.{pairs_of}
use Rattle.dwz_unit.specs.Rows.{EntryRow}

-- the names and forms of each declaration (DWARF 5, 7.5.3), and the number of the declaration of each entry
pub record Declarations : Type 0 where
  pub pairs : List (List Pair)
  pub numbers : List ℕ

-- each entry's values have the names and forms of the declaration with its number
abbrev pub AreOf : List EntryRow → Declarations → Type 0
AreOf rows d = map (λ (n : ℕ). slice_get d.pairs n) d.numbers ≡ map (λ (row : EntryRow). Some (pairs_of row.entry)) rows
