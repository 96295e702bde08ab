-- Labels that tell the marks of tops, each at its top's number.
use Rattle.std.specs.Prelude.{◌≡◌, ℕ, ◌+◌, ◌<◌, ◌≤◌, Bool, List, length, Some, slice_get, slice_index_or}
use Rattle.dwz_def_reading.specs.Lists.{In}
use Rattle.dwz_def_tops.specs.Alike.{Movable}
use Rattle.dwz_def_tops.specs.Deciding.{AreMovable}
use Rattle.dwz_def_reading.specs.TextRows.{text_number}
use Rattle.dwz_def_tops.specs.Spots.{EntryName, FileUnit, Top, name_list, tops_of, units_of}
use Rattle.dwz_graph.specs.Files.{docs_of}
use Rattle.dwz_graph.specs.declared.index.TopEntry.{TopEntry}
use Rattle.dwz_label.specs.Labels.{place_label}
use Rattle.dwz_label_files.specs.declared.marks.Place.{Place}
use Rattle.dwz_label_files.specs.declared.run.Run.{Run}
use Rattle.dwz_graph.specs.declared.file.File.{File}
use Rattle.dwz_graph.specs.Index.{Index}
use Rattle.dwz_label.specs.Shown.{nth_label}
use Rattle.dwz_label.specs.Stretches.{before}
use Rattle.dwz_label_files.specs.declared.stretch.Stretch.{Stretch}
use Rattle.dwz_label_files.specs.Run.{IsInFile}
use Rattle.dwz_label_marks.specs.Marks.{marks_of}
use Rattle.dwz_label_marks.specs.Told.{Tells}
use Rattle.dwz_label_words.specs.Known.{FileNames}
use Rattle.dwz_unit.specs.Declarations.{AreOf}
use Rattle.dwz_unit.specs.Rows.{rows_of, units_of as raw_units}

-- the labels are of the tops from that number on; of those that may move they tell the marks, by these names
abbrev pub TellFrom : List (FileUnit EntryName) → List (List ℕ) → ℕ → List (List ℕ) → Type 0
TellFrom units names first labels =
    (t : Top) (k : ℕ) → In t (tops_of units) → Movable units t.number → t.number ≡ first + k → k < length labels
    → Tells names (marks_of t) (nth_label labels k)

-- ---- inner: no public clause cites what follows

-- labels of the tops from one number to before another; where `movable` says rightly which may move, they tell the marks of these, by the
-- names beside them
pub record IsStretch (units : List (FileUnit EntryName)) (movable : List Bool) (first end : ℕ) (s : Stretch) : Type 0 where
  pub len : first + length s.labels ≡ end
  pub told : AreMovable units movable → TellFrom units s.names first s.labels

-- stretches of so many tops each, one behind the other
abbrev pub AreStretches : List (FileUnit EntryName) → List Bool → ℕ → List Stretch → Type 0
AreStretches units movable len parts =
    (n : ℕ) (d : Stretch) → n < length parts
    → IsStretch units movable (before (length movable) len n) (before (length movable) len (n + 1)) (slice_index_or parts n d)

-- the names are of the texts, tables and declarations of the file
pub record AreFileNames (f : File) (n : FileNames) : Type 0 where
  pub strs : n.strs ≡ f.sections.strs.bytes.now
  pub tables : n.tables ≡ f.resolved.tables.items
  pub declared : AreOf (rows_of (raw_units f.units)) n.declarations

-- those of the file with that number
abbrev pub AreNamesIn : List File → ℕ → FileNames → Type 0
AreNamesIn files file n = (f : File) → slice_get files file ≡ Some f → AreFileNames f n

-- the tops from one number to before another are of that file
abbrev pub AreInFile : List File → List Index → ℕ → ℕ → ℕ → Type 0
AreInFile files indexes file first end = (n : ℕ) → first ≤ n → n < end → IsInFile files indexes file n

-- the name with that number is of where those tops of the file stand that are of that unit, and whose innermost space is before that one
abbrev pub IsPlace : Run → ℕ → List (List ℕ) → ℕ → ℕ → ℕ → Type 0
IsPlace r file names unit inner name =
    (x : Index) (k : ℕ) (e : TopEntry) (t : Top) → slice_get r.indexes.now file ≡ Some x → slice_get x.tops k ≡ Some e → e.unit ≡ unit
    → e.inner ≡ inner → slice_get (tops_of (units_of (docs_of r.graph.now.given))) (x.starts.top + k) ≡ Some t
    → text_number names (place_label t.language (name_list t)) ≡ Some name

abbrev pub HasPlace : Run → ℕ → List (List ℕ) → Place → Type 0
HasPlace r file names p = IsPlace r file names p.unit p.inner p.name
