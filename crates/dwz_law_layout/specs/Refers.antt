-- What has to be known of numbers and of names, so that what references name is written.
use Rattle.std.specs.Prelude.{◌≡◌, ℕ, suc, ◌+◌, ◌<◌, List, [], ◌∷◌, length, Some}
use Rattle.dwz_def_reading.specs.Lists.{Each, In}
use Rattle.dwz_def_reading.specs.Documents.{DwUnit}
use Rattle.dwz_def_tops.specs.Spots.{EntryName}
use Rattle.dwz_def_tops.specs.Seen.{IsPartial}
use Rattle.dwz_unit.specs.Rows.{EntryRow}
use Rattle.dwz_def_encoding.specs.Placing.{FileOut, files_keys}
use Rattle.dwz_layout.specs.declared.known.EntryTable.{EntryTable}
use Rattle.dwz_layout.specs.declared.known.Row.{Row}
use Rattle.dwz_layout.specs.declared.order.Sort.{Sort}
use Rattle.dwz_layout.specs.declared.order.Sort.TheVariants.{Compile, OfType, Partial}
use Rattle.dwz_layout.specs.declared.order.UnitItems.{UnitItems}
use Rattle.dwz_layout.specs.declared.walk.Slot.{Slot}
use Rattle.dwz_layout.specs.Attributes.{Content, OfEntry, OfParts, OfRoot, Read, WritingContext, attrs_of, here_of}
use Rattle.dwz_layout.specs.Entries.{items_slots}
use Rattle.dwz_layout.specs.Known.{reference_at, row_at, unit_of_part}
use Rattle.dwz_encode.specs.Shown.{FilesRefer, IsWritten, Keys, ShowFiles, unit_count, written_in}
use Rattle.dwz_def_readback.specs.Fewer.{NameOnly}

-- ---- numbers

abbrev pub IsEntryNumber : EntryTable → ℕ → Type 0
IsEntryNumber k number = number < length k.owners.items

-- what an attribute names is the number of an entry of any file, or that of one of so many units
abbrev pub ContentCounted : EntryTable → ℕ → Content → Type 0
ContentCounted k units (Read raw) = Unit {0}
ContentCounted k units (OfEntry number) = IsEntryNumber k number
ContentCounted k units (OfRoot unit) = unit < units
ContentCounted k units (OfParts parts numbers) = Each (IsEntryNumber k) numbers

abbrev pub SortCounted : EntryTable → Sort → Type 0
SortCounted k (Compile root) = Unit {0}
SortCounted k (OfType root signature main) = IsEntryNumber k main
SortCounted k (Partial line) = Unit {0}

abbrev pub SlotCounted : EntryTable → ℕ → WritingContext → Slot → Type 0
SlotCounted k units here s = Each (λ a. ContentCounted k units a.content) (attrs_of k here s.origin)

abbrev pub UnitCounted : EntryTable → (units unit : ℕ) → UnitItems → Type 0
UnitCounted k units unit o = SortCounted k o.sort × Each (SlotCounted k units (here_of k unit o.sort)) (items_slots k o.sort o.items)

-- so in units, the first of which has that number, and in files
abbrev pub UnitsCounted : EntryTable → (units unit : ℕ) → List UnitItems → Type 0
UnitsCounted k units unit [] = Unit {0}
UnitsCounted k units unit (o ∷ order) = UnitCounted k units unit o × UnitsCounted k units (suc unit) order

abbrev pub FilesCounted : EntryTable → (units unit : ℕ) → List (List UnitItems) → Type 0
FilesCounted k units unit [] = Unit {0}
FilesCounted k units unit (order ∷ files) = UnitsCounted k units unit order × FilesCounted k units (unit + length order) files

-- ---- names

-- An entry that was read has the name of no other that is written, and none of what wasn't read: of a unit, of the root of a partial
-- unit, of a space of a chain, or of an import.
pub record RowsApart {K : Type 0} (keys : Keys K) (k : EntryTable) (order : List (List UnitItems)) (files : List (FileOut K)) : Type 0 where
  pub rows : (m n : ℕ) → IsEntryNumber k m → IsWritten k n order → keys.row m ≡ keys.row n → m ≡ n
  pub units : (m : ℕ) (f : FileOut K) (u : DwUnit K) → IsEntryNumber k m → In f files → In u f.units → keys.row m ≡ u.at → ⊥
  pub roots : (m : ℕ) (f : FileOut K) (u : DwUnit K) → IsEntryNumber k m → In f files → In u f.units → IsPartial u.kind
      → keys.row m ≡ u.root.at → ⊥
  pub chained : (m unit chain depth : ℕ) → IsEntryNumber k m → keys.row m ≡ keys.chained unit chain depth → ⊥
  pub imports : (m unit part : ℕ) → IsEntryNumber k m → keys.row m ≡ keys.import unit part → ⊥

-- ---- laws

-- The order shows files, its numbers are those of entries and of its units, what files name stands in one of them, and entries have names
-- of their own: then what the order names is in it.
abbrev pub ReferLaw : Type 0
ReferLaw =
    (keys : Keys EntryName) (k : EntryTable) (order : List (List UnitItems)) (files : List (FileOut EntryName))
    → ShowFiles keys k 0 order files
    → FilesCounted k (unit_count order) 0 order → ((f : FileOut EntryName) → In f files → NameOnly (files_keys files) f.units)
    → RowsApart keys k order files → FilesRefer (written_in k order) k 0 order

-- And the name of each entry that is written stands in the files that the order shows.
abbrev pub NamesThereLaw : Type 0
NamesThereLaw =
    (keys : Keys EntryName) (k : EntryTable) (order : List (List UnitItems)) (files : List (FileOut EntryName))
    → ShowFiles keys k 0 order files
    → (n : ℕ) → IsWritten k n order → In (keys.row n) (files_keys files)

-- Where references of files with entries lead to entries, partial units are units of the order, which has some, and types of type units are
-- entries, its numbers are counted.
abbrev pub NumbersCountedLaw : Type 0
NumbersCountedLaw =
    (k : EntryTable) (order : List (List UnitItems))
    → ((r : Row) (x : EntryRow) → row_at k r ≡ Some x → (n : ℕ) → IsEntryNumber k (reference_at k r.file n))
    → (0 < unit_count order → (part : ℕ) → unit_of_part k part < unit_count order)
    → Each (Each (λ o. SortCounted k o.sort)) order → FilesCounted k (unit_count order) 0 order
