-- What is known of the entries of all files, by their numbers.
use Rattle.std.specs.Prelude.{◌≡◌, ℕ, ◌+◌, List, [], Option, Some, slice_get, slice_index, slice_index_or}
use Rattle.std.specs.Option.{option_map_or}
use Rattle.dwz_def_reading.specs.Input.{Input}
use Rattle.dwz_model.specs.declared.place.Pair.{Pair}
use Rattle.dwz_unit.specs.Rows.{EntryRow, rows_of, units_of}
use Rattle.dwz_unit.specs.Values.{Reads}
use Rattle.dwz_layout.specs.declared.known.FileRows.{FileRows}
use Rattle.dwz_layout.specs.declared.known.ValueCounts.{ValueCounts}
use Rattle.dwz_layout.specs.declared.known.EntryTable.{EntryTable}
use Rattle.dwz_layout.specs.declared.known.Row.{Row}
use Rattle.dwz_layout.specs.declared.known.SpaceRow.{SpaceRow}
use Rattle.dwz_layout.specs.declared.known.TextAt.{TextAt}
use Rattle.dwz_layout.specs.declared.known.TextAt.TheVariants.{Own}
use Rattle.dwz_def_encoding.specs.Placing.{CommonUnit, NewUnit, OldUnit, UnitRole}

-- the entries of the file with that number, none where there is no such file
abbrev pub rows_in : EntryTable → ℕ → List EntryRow
rows_in k file = option_map_or (λ (f : FileRows). rows_of (units_of f.units.now)) (slice_get k.files.items file) []

abbrev pub row_at : EntryTable → Row → Option EntryRow
row_at k r = slice_get (rows_in k r.file) r.entry

-- the entry is there, and from a place on its values have these names and forms
pub record HasValues (k : EntryTable) (r : Row) (pairs : List Pair) (at : Input) : Type 0 where
  pub entry : EntryRow
  pub is : row_at k r ≡ Some entry
  pub reads : Reads entry.entry.at pairs at entry.entry.attrs

-- the number of an entry among those of all files
abbrev pub number_of : EntryTable → Row → ℕ
number_of k r = option_map_or (λ (f : FileRows). f.start) (slice_get k.files.items r.file) 0 + r.entry

-- where what the entry names begins among all that entries of its file name
abbrev pub no_firsts : ValueCounts
no_firsts = record { reference = 0; text = 0; file = 0 }

abbrev pub firsts_of : EntryTable → Row → ValueCounts
firsts_of k r = option_map_or (λ (f : FileRows). slice_index_or f.firsts.items r.entry no_firsts) (slice_get k.files.items r.file) no_firsts

-- for a reference of the file, the number among all files of the entry that stands for its target after
abbrev pub reference_at : EntryTable → ℕ → ℕ → ℕ
reference_at k file n = option_map_or (λ (f : FileRows). slice_index f.references.items n) (slice_get k.files.items file) 0

-- for a text of the file, where it is written
abbrev pub no_text : TextAt
no_text = Own 0

abbrev pub text_at : EntryTable → ℕ → ℕ → TextAt
text_at k file n = option_map_or (λ (f : FileRows). slice_index_or f.texts.items n no_text) (slice_get k.files.items file) no_text

-- for a value of the file that is the number of a file, the number of its path in the common file's line table
abbrev pub file_at : EntryTable → ℕ → ℕ → ℕ
file_at k file n = option_map_or (λ (f : FileRows). slice_index f.files.items n) (slice_get k.files.items file) 0

-- the unit in which an entry is written that stands for itself; the one that the partial unit with that number is
abbrev pub owner_of : EntryTable → ℕ → ℕ
owner_of k number = slice_index k.owners.items number

abbrev pub unit_of_part : EntryTable → ℕ → ℕ
unit_of_part k part = slice_index k.parts.items part

abbrev pub no_row : Row
no_row = record { file = 0; entry = 0 }

abbrev pub no_space : SpaceRow
no_space = record { row = no_row; text = no_text; common = no_text }

abbrev pub top_row : EntryTable → ℕ → Row
top_row k top = slice_index_or k.tops.items top no_row

abbrev pub space_at : EntryTable → ℕ → SpaceRow
space_at k space = slice_index_or k.spaces.items space no_space

-- where the name of a space is written in a partial unit of its file, and in one of the common file
abbrev pub text_held : UnitRole → SpaceRow → TextAt
text_held CommonUnit s = s.common
text_held NewUnit s = s.text
text_held OldUnit s = s.text
