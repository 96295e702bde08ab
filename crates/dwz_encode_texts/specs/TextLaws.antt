-- What is known of texts where they stand as they were read, in files that share none with the common file.
use Rattle.std.specs.Prelude.{◌≡◌, ℕ, List, [], None, Some, map, slice_get}
use Rattle.dwz_def_reading.specs.Documents.{DwUnit, Node, node_map}
use Rattle.dwz_def_reading.specs.Files.{around_of}
use Rattle.dwz_def_reading.specs.Meanings.{MeaningContext as ScopeOf, scope_of}
use Rattle.dwz_def_tops.specs.Seen.{IsPartial}
use Rattle.dwz_def_tops.specs.Spaces.{space_text}
use Rattle.dwz_def_tops.specs.Spots.{EntryName, name_of}
use Rattle.dwz_unit.specs.Rows.{EntryRow, units_of as raw_units}
use Rattle.dwz_graph.specs.declared.file.File.{File}
use Rattle.dwz_graph.specs.Index.{Index}
use Rattle.dwz_def_encoding.specs.Bases.{bases_of}
use Rattle.dwz_def_encoding.specs.Placing.{UnitForms, unit_forms, with_keys}
use Rattle.dwz_def_readback.specs.Files.{file_forms_by, name_after, origin_in}
use Rattle.dwz_layout.specs.declared.known.EntryTable.{EntryTable}
use Rattle.dwz_layout.specs.declared.known.TextAt.{TextAt}
use Rattle.dwz_layout.specs.Known.{space_at, text_at}
use Rattle.dwz_law_layout.specs.Knows.{EachFrom, IsRead, IsText, firsts_at, name_attr, texts_in}
use Rattle.dwz_law_layout.specs.Beside.{Beside}
use Rattle.dwz_law_layout.specs.Facts.{AreFacts, HasFile, RunFacts, common, file_read, move, run, units}
use Rattle.dwz_law_layout.specs.Listed.{AreListed, TextsAt, entry_row, space_entries}
use Rattle.dwz_encode_texts.specs.Texts.{file_texts}
use Rattle.dwz_encode_texts.specs.Files.{texts_in_file}
use Rattle.dwz_encode_texts.specs.Names.{HaveNames}

-- the texts of each file, and the names of all spaces, stand where they were read
pub record StandAsRead {beside : Beside} (f : RunFacts beside) (t : TextsAt) : Type 0 where
  pub files : (n : ℕ) (bytes : List ℕ) (x : File) (index : Index) (texts : List TextAt) → HasFile f n bytes x index
      → slice_get t.files n ≡ Some texts → texts ≡ file_texts (around_of bytes (raw_units x.units)) (raw_units x.units)
  pub spaces : HaveNames f.contents f.indexes t.spaces

-- so they do where they are made of the files
abbrev pub StandLaw : Type 0
StandLaw =
    (beside : Beside) (f : RunFacts beside) (t : TextsAt) → t.files ≡ map texts_in_file f.files → HaveNames f.contents f.indexes t.spaces → StandAsRead f t

-- if the unit is partial, its values come from the unit with that scope
abbrev pub ComesFromScope : {beside : Beside} → RunFacts beside → DwUnit EntryName → ScopeOf ℕ → Type 0
ComesFromScope f u s = IsPartial u.kind → origin_in (move f) (units f) u.at ≡ bases_of s

-- the same choice of forms in a file that shares no text
abbrev pub unshared : UnitForms EntryName → UnitForms EntryName
unshared ft = record ft { file = record ft.file { forms = record ft.file.forms { shared = [] } } }

-- what forms are chosen by in a unit of the file with that number, where the file has these keys, and shares no text
abbrev pub unshared_forms : {beside : Beside} → RunFacts beside → ℕ → List EntryName → DwUnit EntryName → UnitForms EntryName
unshared_forms f n keys u = unshared (unit_forms (with_keys (file_forms_by (common f) (run f) n) keys) u)

-- The texts of an entry of a file, written in a unit of it that has its values from the entry's own unit, stand where the definition of
-- forms says.
abbrev pub TextsLaw : Type 0
TextsLaw =
    (beside : Beside) (f : RunFacts beside) (t : TextsAt) (k : EntryTable) → AreFacts f → AreListed f t k → StandAsRead f t
    → (n : ℕ) (bytes : List ℕ) (x : File) (index : Index) → HasFile f n bytes x index
    → (keys : List EntryName) (u : DwUnit EntryName) (i : ℕ) (r : EntryRow) (d : Node ℕ) (read : IsRead (file_read f n bytes x) i r d)
    → ComesFromScope f u (scope_of (around_of bytes (raw_units x.units)) read.unit)
    → EachFrom (λ j a. IsText (unshared_forms f n keys u) None a (text_at k n j)) (firsts_at k (file_read f n bytes x) i).text
    (texts_in (node_map (name_after (run f) n) d).attrs)

-- So does the name of a space, in a unit that has its values from the space's own unit.
abbrev pub NamesLaw : Type 0
NamesLaw =
    (beside : Beside) (f : RunFacts beside) (t : TextsAt) (k : EntryTable) → AreFacts f → AreListed f t k → StandAsRead f t
    → (n : ℕ) (bytes : List ℕ) (x : File) (index : Index) → HasFile f n bytes x index
    → (keys : List EntryName) (u : DwUnit EntryName) (space i : ℕ) (r : EntryRow) (d : Node ℕ) (text : List ℕ)
    → slice_get (space_entries 0 f.indexes) space ≡ Some (entry_row n i) → (read : IsRead (file_read f n bytes x) i r d)
    → space_text d ≡ Some text → ComesFromScope f u (scope_of (around_of bytes (raw_units x.units)) read.unit)
    → IsText (unshared_forms f n keys u) None (name_attr (name_of text d)) (space_at k space).text
