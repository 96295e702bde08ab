use Rattle.std.proofs.Common.{◌≡◌, ℕ, drop, Some, slice_get}
use Rattle.dwz_def_reading.specs.Documents.{Node}
use Rattle.dwz_def_reading.specs.Lists.{Each}
use Rattle.dwz_def_reading.specs.Units.{RawUnit}
use Rattle.dwz_def_tops.specs.Spots.{EntryName}
use Rattle.dwz_graph.specs.Rows.{IsEntryMeant}
use Rattle.dwz_label_entries.specs.Sources.{KnowsUnit, raw_of, scope_at}
use Rattle.dwz_label_words.specs.Known.{StaysNamed}
use Rattle.dwz_label_words.specs.Told.{IsUsual, TellsFirst}
use Rattle.dwz_unit.specs.Rows.{EntryRow, rows_of}
use Rattle.dwz_unit.specs.Values.{Reads}
use Rattle.dwz_label_words.proofs.entries.put_values.Given as goal

abbrev pub invariant-loop-pair : goal.invariant-loop-pair
invariant-loop-pair l = record {
  reads : (row : EntryRow) → slice_get (rows_of (raw_of l.source)) l.i ≡ Some row → Reads row.entry.at (drop l.pair-index l.pairs) l.cursor (drop l.pair-index row.entry.attrs);
  stays : StaysNamed l.fn.names l.names;
  told : (u : RawUnit) (name : ℕ → EntryName) (row : EntryRow) (d : Node ℕ) → KnowsUnit l.source l.here l.line u name → row.unit ≡ l.here.number
      → IsEntryMeant (raw_of l.source) (scope_at l.source u) l.i (drop l.next l.source.refs.now) row d → Each IsUsual d.attrs
      → TellsFirst (raw_of l.source) (scope_at l.source u) (drop l.pair-index row.entry.attrs) name d.attrs l.names.names (drop l.next l.source.refs.now)
      (drop l.behind l.source.refs.now) l.fn.out.items l.out.items;
}
