-- What kind of unit an old unit is, by its entries' numbers.
use Rattle.std.specs.Prelude.{◌≡◌, ℕ, ◌+◌, ◌<◌, true, List}
use Rattle.dwz_def_reading.specs.Rows.{has}
use Rattle.dwz_def_reading.specs.Units.{CompileUnit, PartialUnit, RawKind, RawUnit, TypeUnit, entries_in}
use Rattle.dwz_def_reading.specs.Meanings.{places_of}
use Rattle.dwz_layout.specs.declared.known.Row.{Row}
use Rattle.dwz_layout.specs.declared.order.Sort.{Sort}
use Rattle.dwz_layout.specs.declared.order.Sort.TheVariants.{Compile, OfType}
use Rattle.dwz_graph.specs.Resolved.{place_at}

-- the entry with that number is the one at that offset in the unit, where one of its entries is there
abbrev pub IsMainOf : List RawUnit → RawUnit → (offset main : ℕ) → Type 0
IsMainOf raw u offset main = has (u.at + offset) (places_of u) ≡ true → place_at raw main ≡ u.at + offset

abbrev pub row_of : ℕ → ℕ → Row
row_of file entry = record { file = file; entry = entry }

-- a unit of the file with a number, whose root has that number, and the file's first entry that one among all
abbrev pub SortBy : List RawUnit → (file start first : ℕ) → RawUnit → RawKind → Sort → Type 0
SortBy raw file start first u CompileUnit sort = sort ≡ Compile (row_of file first)
SortBy raw file start first u (TypeUnit signature type_offset) sort =
    (main : ℕ) × (sort ≡ OfType (row_of file first) signature (start + main)) × (main < entries_in raw) × IsMainOf raw u type_offset main
SortBy raw file start first u PartialUnit sort = Unit {0}

abbrev pub SortOf : List RawUnit → (file start first : ℕ) → RawUnit → Sort → Type 0
SortOf raw file start first u sort = SortBy raw file start first u u.kind sort
