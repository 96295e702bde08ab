use Rattle.std.proofs.Common.{◌≡◌, ◌++◌, ℕ, List, drop, map, Some, slice_get}
use Rattle.dwz_def_reading.specs.Documents.{DwUnit, Node, attr_map}
use Rattle.dwz_label.specs.Labels.{each_counted}
use Rattle.dwz_def_check.specs.CrossLabels.{cross_attr_label}
use Rattle.dwz_def_check.specs.CrossNames.{CrossName}
use Rattle.dwz_unit.specs.Rows.{EntryRow, rows_of}
use Rattle.dwz_unit.specs.Values.{Reads}
use Rattle.dwz_check_labels.specs.Entries.{IsEntryOf}
use Rattle.dwz_check_labels.specs.Files.{IsHereOf, KnowsSource, place_of, raw_of, scope_at}
use Rattle.dwz_check_labels.specs.Values.{attrs_into}
use Rattle.dwz_check_labels.proofs.ValueLemmas.{AreLeft}
use Rattle.dwz_check_labels.proofs.entries.put_values.Given as goal

abbrev pub invariant-loop-pair : goal.invariant-loop-pair
invariant-loop-pair l = record {
  reads : (row : EntryRow) → slice_get (rows_of (raw_of l.source)) l.i ≡ Some row → Reads row.entry.at (drop l.pair-index l.pairs) l.cursor (drop l.pair-index row.entry.attrs);
  left : (said : List (DwUnit ℕ)) (name : ℕ → CrossName) (n : ℕ) (row : EntryRow) (d : Node ℕ) (k : KnowsSource l.source said name) (h : IsHereOf (raw_of l.source) n l.here)
      → slice_get l.source.lines.now n ≡ Some l.line → IsEntryOf l.source n l.i row d
      → AreLeft (scope_at l.source h.u) (place_of l.source) (drop l.pair-index row.entry.attrs) name (drop l.behind l.refs) l.out.items
      (l.fn.out.items ++ each_counted cross_attr_label (map (attr_map name) d.attrs)) l.tops.items (l.fn.tops.items ++ attrs_into name d.attrs);
}
