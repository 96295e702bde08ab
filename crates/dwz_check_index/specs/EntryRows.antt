-- Which rows mean an entry by its number.
use Rattle.std.specs.Prelude.{◌≡◌, ℕ, List, ◌++◌, Ok, Some, drop, slice_get}
use Rattle.dwz_def_reading.specs.Documents.{DwUnit}
use Rattle.dwz_def_reading.specs.Entries.{RawEntry}
use Rattle.dwz_def_reading.specs.Meanings.{Around, scope_of}
use Rattle.dwz_def_reading.specs.Meant.{entries_meaning, units_meaning}
use Rattle.dwz_def_reading.specs.Trees.{End, Entry, Forest, Position}
use Rattle.dwz_def_reading.specs.Units.{RawUnit}
use Rattle.dwz_unit.specs.Rows.{EntryRow, rows_below, rows_of}
use Rattle.dwz_check_index.specs.Index.{ListedEntry, listed_units}

-- from that number on stand the rows of one entry of a unit, and they mean this one with all that is below it
pub record IsEntryRow (around : Around ℕ) (raw : List RawUnit) (i : ℕ) (d : ListedEntry ℕ) : Type 0 where
  pub number : ℕ
  pub unit : RawUnit
  pub is_unit : slice_get raw number ≡ Some unit
  pub e : RawEntry
  pub c : Forest RawEntry
  pub p : Position
  pub after : List EntryRow
  pub at : p.before ≡ i
  pub rows : drop i (rows_of raw) ≡ rows_below (Entry e c End) number p ++ after
  pub means : entries_meaning (scope_of around unit) (Entry e c End) ≡ Ok (Entry d.0 d.1 End)

-- each entry of the document is so meant
abbrev pub EntryRowLaw : Type 0
EntryRowLaw =
    (around : Around ℕ) (raw : List RawUnit) (said : List (DwUnit ℕ)) → units_meaning around raw ≡ Ok said → (i : ℕ) (d : ListedEntry ℕ)
    → slice_get (listed_units said) i ≡ Some d → IsEntryRow around raw i d
