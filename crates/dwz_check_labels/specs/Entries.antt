-- What is written of entries by their numbers.
use Rattle.std.specs.Prelude.{◌≡◌, ℕ, List, ◌++◌, Ok, Some, slice_get}
use Rattle.dwz_def_reading.specs.Documents.{Node, node_map}
use Rattle.dwz_def_reading.specs.Meant.{node_meaning}
use Rattle.dwz_def_reading.specs.Trees.{size}
use Rattle.dwz_def_reading.specs.Units.{RawUnit}
use Rattle.dwz_label.specs.Labels.{number}
use Rattle.dwz_def_check.specs.CrossLabels.{lone_label, lone_targets}
use Rattle.dwz_def_check.specs.CrossNames.{CrossName}
use Rattle.dwz_check_index.specs.Index.{ListedEntry}
use Rattle.dwz_check_labels.specs.declared.source.Source.{Source}
use Rattle.dwz_check_labels.specs.Files.{raw_of, scope_at}
use Rattle.dwz_unit.specs.Rows.{EntryRow, rows_of}

-- an entry behind the number of those below it
abbrev pub entry_label : (ℕ → CrossName) → ListedEntry ℕ → List ℕ
entry_label name d = number (size d.1) ++ lone_label (node_map name d.0)

abbrev pub entry_into : (ℕ → CrossName) → ListedEntry ℕ → List ℕ
entry_into name d = lone_targets (node_map name d.0)

-- the entry with a number, in the unit with that one, means this one
pub record IsEntryOf (x : Source) (n i : ℕ) (row : EntryRow) (d : Node ℕ) : Type 0 where
  pub found : slice_get (rows_of (raw_of x)) i ≡ Some row
  pub unit : row.unit ≡ n
  pub means : (u : RawUnit) → slice_get (raw_of x) n ≡ Some u → node_meaning (scope_at x u) row.entry ≡ Ok d
