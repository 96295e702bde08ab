-- What holds of each file of a run, among all.
use Rattle.std.specs.Prelude.{◌≡◌, ℕ, ◌+◌, ◌^◌, ◌<◌, ◌≤◌, List, length, Ok, Some, slice_get}
use Rattle.dwz_def_reading.specs.Units.{RawUnit, entries_in}
use Rattle.dwz_def_reading.specs.Documents.{DwUnit, unit_map}
use Rattle.dwz_def_reading.specs.Files.{around_of}
use Rattle.dwz_def_reading.specs.Meant.{unit_meaning}
use Rattle.dwz_def_tops.specs.Spots.{Top, in_file, tops_of, units_of}
use Rattle.dwz_graph.specs.declared.file.File.{File}
use Rattle.dwz_graph.specs.Files.{AreKept, docs_of}
use Rattle.dwz_graph.specs.declared.index.TopEntry.{TopEntry}
use Rattle.dwz_graph.specs.Index.{Index, next_starts}
use Rattle.dwz_graph.specs.Names.{names_from}
use Rattle.dwz_graph.specs.Indexed.{AreIndexes}
use Rattle.dwz_graph.specs.Standing.{NamesEntries}
use Rattle.dwz_unit.specs.Rows.{units_of as raw_units}
use Rattle.dwz_graph.specs.Across.{IsFileAmong, IsTopOf, file_units, name_at, starts_at}

-- there are as many files and indexes as documents
abbrev pub ManyLaw : Type 0
ManyLaw =
    (contents : List (List ℕ)) (files : List File) (indexes : List Index) → AreKept contents files → AreIndexes (docs_of contents) indexes
    → (length files ≡ length (docs_of contents)) × (length indexes ≡ length (docs_of contents))
    × (length contents ≡ length (docs_of contents))

-- the file with a number, with its index, is one of them
pub record IsAmong (contents : List (List ℕ)) (file : ℕ) (f : File) (x : Index) : Type 0 where
  pub bytes : List ℕ
  pub is : IsFileAmong contents file bytes f x

abbrev pub FileLaw : Type 0
FileLaw =
    (contents : List (List ℕ)) (files : List File) (indexes : List Index) (file : ℕ) (f : File) (x : Index) → AreKept contents files
    → AreIndexes (docs_of contents) indexes
    → slice_get files file ≡ Some f → slice_get indexes file ≡ Some x → IsAmong contents file f x

-- it begins with the numbers behind those before it, and the next one begins behind it
abbrev pub StartsLaw : Type 0
StartsLaw =
    (contents : List (List ℕ)) (files : List File) (indexes : List Index) (file : ℕ) (f : File) (x : Index) → AreKept contents files
    → AreIndexes (docs_of contents) indexes
    → slice_get files file ≡ Some f → slice_get indexes file ≡ Some x
    → (x.starts ≡ starts_at (docs_of contents) indexes file)
    × (next_starts x (length (raw_units f.units)) ≡ starts_at (docs_of contents) indexes (file + 1))

-- behind the last one there are as many units and tops as all have
abbrev pub EndLaw : Type 0
EndLaw =
    (contents : List (List ℕ)) (indexes : List Index) → AreIndexes (docs_of contents) indexes
    → ((starts_at (docs_of contents) indexes (length indexes)).unit ≡ length (units_of (docs_of contents)))
    × ((starts_at (docs_of contents) indexes (length indexes)).top ≡ length (tops_of (units_of (docs_of contents))))

-- there are few tops before a file, and in all
abbrev pub RoomLaw : Type 0
RoomLaw =
    (contents : List (List ℕ)) (files : List File) (indexes : List Index) (file : ℕ) → AreKept contents files
    → AreIndexes (docs_of contents) indexes
    → (starts_at (docs_of contents) indexes file).top ≤ 2 ^ 29

-- a number is that of a top of one of the files
pub record IsIn (files : List File) (indexes : List Index) (n : ℕ) : Type 0 where
  pub file : ℕ
  pub f : File
  pub x : Index
  pub k : ℕ
  pub e : TopEntry
  pub file_is : slice_get files file ≡ Some f
  pub index_is : slice_get indexes file ≡ Some x
  pub top_is : slice_get x.tops k ≡ Some e
  pub number : n ≡ x.starts.top + k

abbrev pub FoundLaw : Type 0
FoundLaw =
    (contents : List (List ℕ)) (files : List File) (indexes : List Index) (n : ℕ) → AreKept contents files
    → AreIndexes (docs_of contents) indexes
    → n < length (tops_of (units_of (docs_of contents))) → IsIn files indexes n

-- the index is of all entries, of which there are few, and which have the names of their places
abbrev pub EntriesLaw : Type 0
EntriesLaw =
    (contents : List (List ℕ)) (file : ℕ) (bytes : List ℕ) (f : File) (x : Index) (is : IsFileAmong contents file bytes f x)
    → (length x.steps ≡ entries_in (raw_units f.units)) × (entries_in (raw_units f.units) < 2 ^ 32)
    × NamesEntries (raw_units f.units) (name_at x.starts is.kept.read.doc) (names_from x.starts.unit x.starts.top is.kept.read.doc.units)

-- each top that the index gives is one of the file, and of all
pub record GivesTop (contents : List (List ℕ)) (file : ℕ) (bytes : List ℕ) (f : File) (x : Index) (is : IsFileAmong contents file bytes f x)
    (k : ℕ) (e : TopEntry) : Type 0 where
  pub top : Top
  pub top_is : IsTopOf contents file bytes f x is.kept.read.doc k e top

abbrev pub TopLaw : Type 0
TopLaw =
    (contents : List (List ℕ)) (file : ℕ) (bytes : List ℕ) (f : File) (x : Index) (is : IsFileAmong contents file bytes f x) (k : ℕ)
    (e : TopEntry)
    → slice_get x.tops k ≡ Some e → GivesTop contents file bytes f x is k e

-- each unit means one of the document, which stands with names among those of the file
pub record IsUnitOf (contents : List (List ℕ)) (file : ℕ) (bytes : List ℕ) (f : File) (x : Index) (is : IsFileAmong contents file bytes f x)
    (n : ℕ) (u : RawUnit) : Type 0 where
  pub v : DwUnit ℕ
  pub means : unit_meaning (around_of bytes (raw_units f.units)) u ≡ Ok v
  pub unit_is : slice_get is.kept.read.doc.units n ≡ Some v
  pub named_is : slice_get (file_units x.starts file is.kept.read.doc) n
      ≡ Some (in_file file (unit_map (name_at x.starts is.kept.read.doc) v))

abbrev pub UnitLaw : Type 0
UnitLaw =
    (contents : List (List ℕ)) (file : ℕ) (bytes : List ℕ) (f : File) (x : Index) (is : IsFileAmong contents file bytes f x) (n : ℕ)
    (u : RawUnit)
    → slice_get (raw_units f.units) n ≡ Some u → IsUnitOf contents file bytes f x is n u
