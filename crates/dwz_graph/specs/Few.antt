-- Files that are read have no more than 2 ^ 24 entries together, so few units, tops and spaces.
use Rattle.std.specs.Prelude.{◌≡◌, ◌+◌, ◌≤◌, ◌^◌, ℕ, List, [], ◌∷◌, Some, length, slice_get}
use Rattle.std.specs.List.{flat_map}
use Rattle.dwz_def_reading.specs.Units.{entries_in}
use Rattle.dwz_def_reading.specs.Documents.{Doc}
use Rattle.dwz_def_tops.specs.Spots.{tops_of, units_of}
use Rattle.dwz_graph.specs.declared.file.File.{File}
use Rattle.dwz_graph.specs.Files.{AreKept, docs_of}
use Rattle.dwz_graph.specs.declared.index.Starts.{Starts}
use Rattle.dwz_graph.specs.Index.{Index}
use Rattle.dwz_graph.specs.Indexed.{AreIndexes}
use Rattle.dwz_unit.specs.Rows.{units_of as raw_units}
use Rattle.dwz_graph.specs.EntryCounts.{entry_count, starts_from}
use Rattle.dwz_graph.specs.AllNames.{all_names}

-- how many entries files have
unfoldable pub entries_in_files : List File → ℕ
entries_in_files [] = 0
entries_in_files (f ∷ files) = entries_in (raw_units f.units) + entries_in_files files

abbrev pub EntriesLaw : Type 0
EntriesLaw = (contents : List (List ℕ)) (files : List File) → AreKept contents files → entries_in_files files ≤ 2 ^ 24

-- each has a name
abbrev pub NamesLaw : Type 0
NamesLaw = (contents : List (List ℕ)) (files : List File) → AreKept contents files → length (all_names (docs_of contents)) ≤ 2 ^ 24

-- so many units, tops, spaces and entries have numbers of no more than 2 ^ 24, where the first ones have these numbers
pub record HasSmallNumbers (s : Starts) (start count : ℕ) : Type 0 where
  pub units : s.unit + count ≤ 2 ^ 24
  pub tops : s.top + count ≤ 2 ^ 24
  pub spaces : s.space + count ≤ 2 ^ 24
  pub entries : start + count ≤ 2 ^ 24

-- as many as each file has entries; it has no more units
abbrev pub FileLaw : Type 0
FileLaw =
    (contents : List (List ℕ)) (files : List File) (indexes : List Index) (file start : ℕ) (f : File) (x : Index) → AreKept contents files
    → AreIndexes (docs_of contents) indexes
    → slice_get files file ≡ Some f → slice_get indexes file ≡ Some x → slice_get (starts_from 0 indexes) file ≡ Some start
    → HasSmallNumbers x.starts start (entries_in (raw_units f.units)) × (length (raw_units f.units) ≤ entries_in (raw_units f.units))

-- there are no more in all files
pub record HaveSmallNumbers (docs : List (Doc ℕ)) (indexes : List Index) : Type 0 where
  pub entries : entry_count indexes ≤ 2 ^ 24
  pub units : length (units_of docs) ≤ 2 ^ 24
  pub tops : length (tops_of (units_of docs)) ≤ 2 ^ 24
  pub listed : length (flat_map (λ x. x.tops) indexes) ≤ 2 ^ 24
  pub spaces : length (flat_map (λ x. x.spaces) indexes) ≤ 2 ^ 24

abbrev pub AllLaw : Type 0
AllLaw =
    (contents : List (List ℕ)) (files : List File) (indexes : List Index) → AreKept contents files → AreIndexes (docs_of contents) indexes
    → HaveSmallNumbers (docs_of contents) indexes
