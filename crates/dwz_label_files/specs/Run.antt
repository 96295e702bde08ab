-- The labels of the tops of all files; and where these are.
use Rattle.std.specs.Prelude.{◌≡◌, ℕ, ◌-◌, ◌<◌, ◌≤◌, Bool, false, List, [], length, map, if◌then◌else◌, Some, slice_get, slice_index_or}
use Rattle.std.specs.List.{range_with_len}
use Rattle.dwz_def_tops.specs.Spots.{tops_of, units_of}
use Rattle.dwz_label_files.specs.declared.run.Run.{Run}
use Rattle.dwz_label_files.specs.declared.spot.Spot.{Spot}
use Rattle.dwz_label_files.specs.declared.unit.UnitRow.{UnitRow}
use Rattle.dwz_label_files.specs.Unit.{HaveRows, IsUnitRow}
use Rattle.dwz_graph.specs.declared.file.File.{File}
use Rattle.dwz_graph.specs.Files.{AreKept, docs_of}
use Rattle.dwz_graph.specs.declared.index.TopEntry.{TopEntry}
use Rattle.dwz_graph.specs.Index.{Index}
use Rattle.dwz_graph.specs.Indexed.{AreIndexes}
use Rattle.dwz_label.specs.Labels.{label_of}
use Rattle.dwz_label.specs.Shown.{nth_label}
use Rattle.dwz_unit.specs.Rows.{units_of as raw_units}

-- the labels of the tops of all files, in order
abbrev pub labels_of : List (List ℕ) → List (List ℕ)
labels_of contents = map label_of (tops_of (units_of (docs_of contents)))

-- of the top with a number its label if it may move, and else no bytes
abbrev pub movable_label : List (List ℕ) → List Bool → ℕ → List ℕ
movable_label contents movable n = if slice_index_or movable n false then nth_label (labels_of contents) n else []

-- of the tops of all files, in order
abbrev pub movable_labels : List (List ℕ) → List Bool → List (List ℕ)
movable_labels contents movable = map (movable_label contents movable) (range_with_len 0 (length (tops_of (units_of (docs_of contents)))))

-- ---- inner: no public clause cites what follows

-- what files say, and of each of their tops whether it may move
pub record Asked : Type 0 where
  pub contents : List (List ℕ)
  pub movable : List Bool

-- the files are kept, and each has its index
pub record IsRun (r : Run) : Type 0 where
  pub kept : AreKept r.graph.now.given r.files.now
  pub indexed : AreIndexes (docs_of r.graph.now.given) r.indexes.now

-- the top with a number among those of all files is of the file with that number
pub record IsInFile (files : List File) (indexes : List Index) (file n : ℕ) : Type 0 where
  pub f : File
  pub x : Index
  pub got : slice_get files file ≡ Some f
  pub index : slice_get indexes file ≡ Some x
  pub from : x.starts.top ≤ n
  pub to : n - x.starts.top < length x.tops

-- the file's index gives this of a top, and that is kept of the top's unit
pub record IsTopIn (files : List File) (indexes : List Index) (file : ℕ) (e : TopEntry) (row : UnitRow) : Type 0 where
  pub f : File
  pub x : Index
  pub k : ℕ
  pub got : slice_get files file ≡ Some f
  pub index : slice_get indexes file ≡ Some x
  pub entry : slice_get x.tops k ≡ Some e
  pub unit : IsUnitRow (raw_units f.units) (e.unit - x.starts.unit) row

-- there stands the top with a number among those of all files
pub record IsSpot (r : Run) (n : ℕ) (s : Spot) : Type 0 where
  pub in_file : IsInFile r.files.now r.indexes.now s.file n
  pub entry : (x : Index) → slice_get r.indexes.now s.file ≡ Some x → slice_get x.tops (n - x.starts.top) ≡ Some s.entry
  pub there : IsTopIn r.files.now r.indexes.now s.file s.entry s.row

-- rows are kept of the units of all files
pub record AreReady (r : Run) (rows : List UnitRow) : Type 0 where
  pub run : IsRun r
  pub rows_are : HaveRows r.files.now r.indexes.now (length r.files.now) rows
