use Rattle.std.proofs.Common.{◌≡◌, ◌++◌, ℕ, drop, map, Some, slice_get}
use Rattle.dwz_def_tops.specs.Spots.{EntryName}
use Rattle.dwz_def_reading.specs.Units.{RawUnit}
use Rattle.dwz_label_entries.specs.Sources.{KnowsUnit, raw_of, scope_at}
use Rattle.dwz_label_entries.proofs.AttrsLemmas.{AreLeft}
use Rattle.dwz_graph.specs.Rows.{IsEntryMeant}
use Rattle.dwz_label.specs.Labels.{attr_label, each_counted}
use Rattle.dwz_def_reading.specs.Documents.{Node, attr_map}
use Rattle.dwz_unit.specs.Rows.{EntryRow, rows_of}
use Rattle.dwz_unit.specs.Values.{Reads}
use Rattle.dwz_label_entries.proofs.entries.put_values.Given as goal

abbrev pub invariant-loop-pair : goal.invariant-loop-pair
invariant-loop-pair l = record {
  reads : (row : EntryRow) → slice_get (rows_of (raw_of l.source)) l.i ≡ Some row → Reads row.entry.at (drop l.pair-index l.pairs) l.cursor (drop l.pair-index row.entry.attrs);
  left : (u : RawUnit) (name : ℕ → EntryName) (row : EntryRow) (d : Node ℕ) → KnowsUnit l.source l.here l.line u name → row.unit ≡ l.here.number
      → IsEntryMeant (raw_of l.source) (scope_at l.source u) l.i (drop l.next l.source.refs.now) row d
      → AreLeft (raw_of l.source) (scope_at l.source u) (drop l.pair-index row.entry.attrs) name d.attrs (drop l.next l.source.refs.now) (drop l.behind l.source.refs.now) l.out.items
      (l.fn.out.items ++ each_counted attr_label (map (attr_map name) d.attrs));
}
