-- Where the names of spaces stand.
use Rattle.std.specs.Prelude.{◌≡◌, ℕ, List, length, map, Option, Some, None, slice_get}
use Rattle.dwz_def_reading.specs.Entries.{RawAttr}
use Rattle.dwz_def_reading.specs.Units.{RawUnit}
use Rattle.dwz_def_reading.specs.Documents.{Doc}
use Rattle.dwz_def_reading.specs.Files.{Limits, around_of, no_files_before}
use Rattle.dwz_def_reading.specs.Meanings.{Around, first_raw}
use Rattle.dwz_unit.specs.Rows.{EntryRow, rows_of}
use Rattle.dwz_graph.specs.Files.{HasFile}
use Rattle.dwz_graph.specs.declared.index.SpaceEntry.{SpaceEntry}
use Rattle.dwz_graph.specs.Index.{Index}
use Rattle.dwz_layout.specs.declared.known.TextAt.{TextAt}
use Rattle.dwz_layout.specs.declared.known.TextAt.TheVariants.{Own}
use Rattle.dwz_law_layout.specs.Listed.{entry_row, space_entries}
use Rattle.dwz_encode_texts.specs.Texts.{own_text, slots_base_at}

-- that of an attribute, or of none
abbrev pub named_text : List ℕ → Option ℕ → Option RawAttr → TextAt
named_text offsets base None = Own 0
named_text offsets base (Some a) = own_text offsets base a

-- that of an entry: of its first DW_AT_name (3)
abbrev pub row_name : Around ℕ → List RawUnit → EntryRow → TextAt
row_name around raw r = named_text around.sources.offsets (slots_base_at around raw r.unit) (first_raw 0x03 r.entry.attrs)

-- those of spaces of a file; none where there is no such entry
abbrev pub name_by_row : Around ℕ → List RawUnit → Option EntryRow → TextAt
name_by_row around raw None = Own 0
name_by_row around raw (Some r) = row_name around raw r

abbrev pub names_of_spaces : Around ℕ → List RawUnit → List SpaceEntry → List TextAt
names_of_spaces around raw spaces = map (λ (s : SpaceEntry). name_by_row around raw (slice_get (rows_of raw) s.entry)) spaces

-- For each space of files its name: of the entry with that number, of the file with that number.
pub record HaveNames (contents : List (List ℕ)) (indexes : List Index) (texts : List TextAt) : Type 0 where
  pub many : length texts ≡ length (space_entries 0 indexes)
  pub each : (space file i : ℕ) (l : Limits) (bytes : List ℕ) (raw : List RawUnit) (doc : Doc ℕ) (r : EntryRow)
      → slice_get (space_entries 0 indexes) space ≡ Some (entry_row file i) → HasFile no_files_before contents file l bytes raw doc
      → slice_get (rows_of raw) i ≡ Some r → slice_get texts space ≡ Some (row_name (around_of bytes raw) raw r)
