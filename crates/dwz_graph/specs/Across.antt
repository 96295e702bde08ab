-- One file of several: what it says, and where its units and tops stand among those of all.
use Rattle.std.specs.Prelude.{◌≡◌, ℕ, zero, suc, ◌+◌, ◌<◌, ◌≤◌, List, [], ◌∷◌, ◌++◌, length, map, Some, slice_get}
use Rattle.dwz_def_reading.specs.Lists.{In}
use Rattle.dwz_def_reading.specs.Units.{entries_in}
use Rattle.dwz_def_reading.specs.Documents.{Doc}
use Rattle.dwz_def_reading.specs.Files.{around_of}
use Rattle.dwz_def_tops.specs.Lists.{NoneTwice}
use Rattle.dwz_def_tops.specs.Shown.{units_keys}
use Rattle.dwz_def_tops.specs.Spots.{EntryName, FileUnit, Top, Within, in_file, named, spot_in, spots_from, tops_from, tops_of, units_of}
use Rattle.dwz_graph.specs.declared.file.File.{File}
use Rattle.dwz_graph.specs.Files.{HasRead, docs_of}
use Rattle.dwz_graph.specs.declared.index.Starts.{Starts}
use Rattle.dwz_graph.specs.declared.index.TopEntry.{TopEntry}
use Rattle.dwz_graph.specs.Index.{Index}
use Rattle.dwz_graph.specs.Indexed.{IsIndexOf, first_starts, starts_behind}
use Rattle.dwz_def_tops.specs.UnitNames.{name_of_place}
use Rattle.dwz_def_reading.specs.Places.{at_file}
use Rattle.dwz_graph.specs.Standing.{StandsAt}
use Rattle.dwz_unit.specs.declared.rows.RawEntry.{RawEntry}
use Rattle.dwz_unit.specs.Rows.{shown_entries, units_of as raw_units}

-- ---- of a file that begins with these numbers

-- the name of a place
abbrev pub name_at : Starts → Doc ℕ → ℕ → EntryName
name_at s doc = spot_in (spots_from s.unit s.top doc.units)

-- the units, with names
abbrev pub file_units : Starts → ℕ → Doc ℕ → List (FileUnit EntryName)
file_units s file doc = map (in_file file) (named s.unit s.top doc.units)

-- the tops
abbrev pub file_tops : Starts → ℕ → Doc ℕ → List Top
file_tops s file doc = tops_from s.unit s.top (file_units s file doc)

-- the numbers behind so many of the files, the first of which begins with these
unfoldable pub starts_from : Starts → List (Doc ℕ) → List Index → ℕ → Starts
starts_from s docs indexes zero = s
starts_from s (doc ∷ docs) (x ∷ indexes) (suc k) = starts_from (starts_behind s doc x) docs indexes k
starts_from s _ _ (suc k) = s

-- the numbers that the file with a number begins with; behind the last file, how many there are
abbrev pub starts_at : List (Doc ℕ) → List Index → ℕ → Starts
starts_at docs indexes k = starts_from first_starts docs indexes k

-- ---- among all

-- this is a part of them, and so many stand before it
pub record IsPart {X : Type 0} (all : List X) (before : ℕ) (part : List X) : Type 0 where
  pub front : List X
  pub back : List X
  pub all_are : all ≡ front ++ (part ++ back)
  pub many : length front ≡ before

-- The file with that number, as it is kept: its index, its document, where its units and tops stand among those of all files, and what
-- its places are named among all. Tops before and behind them are of other units, and no place stands twice in it.
pub record IsFileAmong (contents : List (List ℕ)) (file : ℕ) (bytes : List ℕ) (f : File) (x : Index) : Type 0 where
  pub kept : HasRead contents file bytes f
  pub index : IsIndexOf x.starts kept.read.doc x
  pub doc_is : slice_get (docs_of contents) file ≡ Some kept.read.doc
  pub units : IsPart (units_of (docs_of contents)) x.starts.unit (file_units x.starts file kept.read.doc)
  pub tops : IsPart (tops_of (units_of (docs_of contents))) x.starts.top (file_tops x.starts file kept.read.doc)
  pub earlier : (t : Top) → In t tops.front → t.unit < x.starts.unit
  pub later : (t : Top) → In t tops.back → x.starts.unit + length kept.read.doc.units ≤ t.unit
  pub once : NoneTwice (units_keys kept.read.doc.units)
  pub names : (offset : ℕ) → name_of_place (docs_of contents) (at_file file offset) ≡ name_at x.starts kept.read.doc offset

-- What the index of a file gives a top: the top stands there, and it has the number, the unit and the file.
pub record IsTopOf (contents : List (List ℕ)) (file : ℕ) (bytes : List ℕ) (f : File) (x : Index) (doc : Doc ℕ) (k : ℕ) (e : TopEntry)
    (t : Top) : Type 0 where
  pub there : slice_get (tops_of (units_of (docs_of contents))) (x.starts.top + k) ≡ Some t
  pub of_file : slice_get (file_tops x.starts file doc) k ≡ Some t
  pub number : t.number ≡ x.starts.top + k
  pub unit : t.unit ≡ e.unit
  pub file_is : t.file ≡ file
  pub within : e.entry < entries_in (raw_units f.units)
  pub ends : (r : RawEntry) → slice_get (shown_entries (raw_units f.units)) e.entry ≡ Some r → r.end ≤ entries_in (raw_units f.units)
  pub named : (r : RawEntry) → slice_get (shown_entries (raw_units f.units)) e.entry ≡ Some r
      → name_at x.starts doc r.at ≡ Within t.number []
  pub stands : (r : RawEntry) → slice_get (shown_entries (raw_units f.units)) e.entry ≡ Some r
      → StandsAt (around_of bytes (raw_units f.units)) (name_at x.starts doc) (raw_units f.units) doc.units file x.starts.unit t e.entry
      r.end
