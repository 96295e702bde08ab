-- Where the texts of entries and the names of spaces are written, file by file, once the common file has texts.
use Rattle.std.specs.Prelude.{◌≡◌, ℕ, suc, ◌+◌, Bool, true, false, List, [], ◌∷◌, ◌++◌, ◌&&◌, length, Some, slice_get, slice_index_or}
use Rattle.std.specs.Option.{option_map_or}
use Rattle.dwz_graph.specs.Resolved.{sources_view}
use Rattle.dwz_unit.specs.Rows.{EntryRow, rows_of, units_of}
use Rattle.dwz_graph.specs.declared.file.File.{File}
use Rattle.dwz_layout.specs.declared.known.EntryTable.{EntryTable}
use Rattle.dwz_layout.specs.declared.known.Row.{Row}
use Rattle.dwz_layout.specs.declared.known.SpaceRow.{SpaceRow}
use Rattle.dwz_layout.specs.declared.known.TextAt.{TextAt}
use Rattle.dwz_layout.specs.Attributes.{is_common}
use Rattle.dwz_layout.specs.Entries.{row}
use Rattle.dwz_layout.specs.Known.{number_of, owner_of, text_at}
use Rattle.dwz_encode_common.specs.Shared.{placed_text}
use Rattle.dwz_encode_common.specs.Stored.{row_name, row_texts}

-- whether the file with that number shares the texts of the common file, by such a list
abbrev pub shares_in : List Bool → ℕ → Bool
shares_in sharing n = slice_index_or sharing n false

-- ---- entries

-- whether that entry of the file is owned by a unit of the common file
abbrev pub in_common_file : EntryTable → (file i : ℕ) → Bool
in_common_file k n i = is_common k (owner_of k (number_of k (row n i)))

-- whether it is written there, if that file is made: nothing is in one that stands
abbrev pub written_there : (made : Bool) → EntryTable → (file i : ℕ) → Bool
written_there made k n i = made && in_common_file k n i

-- texts of an entry, the first of which has that number among those of its file
abbrev pub entry_places : (is_common shares : Bool) → List (List ℕ) → EntryTable → (file first : ℕ) → List (List ℕ) → List TextAt
entry_places is_common shares texts k n first [] = []
entry_places is_common shares texts k n first (text ∷ said) =
    placed_text is_common shares texts text (text_at k n first) ∷ entry_places is_common shares texts k n (suc first) said

-- of entries of the file, the first of which has that number, and names such texts: those of each, one behind the other
abbrev pub rows_places : (made shares : Bool) → List (List ℕ) → EntryTable → (file : ℕ) → (EntryRow → List (List ℕ)) → (i first : ℕ)
    → List EntryRow
    → List TextAt
rows_places made shares texts k n said i first [] = []
rows_places made shares texts k n said i first (r ∷ rows) =
    entry_places (written_there made k n i) shares texts k n first (said r)
    ++ rows_places made shares texts k n said (suc i) (first + length (said r)) rows

-- all of a file
abbrev pub said_in : File → EntryRow → List (List ℕ)
said_in x = row_texts (sources_view x.sections) (units_of x.units)

abbrev pub file_places : (made shares : Bool) → List (List ℕ) → EntryTable → (file : ℕ) → File → List TextAt
file_places made shares texts k n x = rows_places made shares texts k n (said_in x) 0 0 (rows_of (units_of x.units))

-- and of each file
pub record HavePlaces (made : Bool) (files : List File) (texts : List (List ℕ)) (sharing : List Bool) (k : EntryTable)
    (all : List (List TextAt)) : Type 0 where
  pub many : length all ≡ length files
  pub each : (n : ℕ) (x : File) → slice_get files n ≡ Some x → slice_get all n ≡ Some (file_places made (shares_in sharing n) texts k n x)

-- ---- spaces

-- the name of an entry of these files, where it has a place in a section, and the entry is there
abbrev pub name_at : List File → Row → List (List ℕ)
name_at files r =
    option_map_or (λ (x : File). option_map_or (row_name (sources_view x.sections) (units_of x.units))
    (slice_get (rows_of (units_of x.units)) r.entry) []) (slice_get files r.file) []

-- it is written there; no name keeps its place
abbrev pub name_place : (is_common shares : Bool) → List (List ℕ) → List (List ℕ) → TextAt → TextAt
name_place is_common shares texts [] own = own
name_place is_common shares texts (name ∷ names) own = placed_text is_common shares texts name own

-- a space: in a partial unit of its file, and in one of the common file
abbrev pub space_placed : List File → List (List ℕ) → List Bool → SpaceRow → SpaceRow
space_placed files texts sharing s = record {
  row = s.row;
  text = name_place false (shares_in sharing s.row.file) texts (name_at files s.row) s.text;
  common = name_place true false texts (name_at files s.row) s.common;
}
