use Rattle.std.proofs.Common.{◌≡◌, ℕ, List, drop}
use Rattle.dwz_def_reading.specs.Documents.{Node}
use Rattle.dwz_def_reading.specs.Lists.{Each}
use Rattle.dwz_def_reading.specs.Units.{RawUnit}
use Rattle.dwz_def_tops.specs.Spots.{EntryName}
use Rattle.dwz_graph.specs.Rows.{AreRowsMeant}
use Rattle.dwz_label_entries.specs.Sources.{KnowsUnit, raw_of, scope_at}
use Rattle.dwz_label_words.specs.Known.{StaysNamed}
use Rattle.dwz_label_words.specs.Told.{AreUsual, rows_marks}
use Rattle.dwz_label_words.proofs.RowsLemmas.{RowsLeft}
use Rattle.dwz_unit.specs.Rows.{EntryRow}
use Rattle.dwz_label_words.proofs.tops.put_rows.Given as goal

abbrev pub invariant-loop-i : goal.invariant-loop-i
invariant-loop-i l = record {
  stays : StaysNamed l.fn.names l.names;
  told : (u : RawUnit) (name : ℕ → EntryName) (rows after : List EntryRow) (ds : List (Node ℕ)) → KnowsUnit l.source l.here l.line u name → Each (λ row. row.unit ≡ l.here.number) rows
      → AreRowsMeant (raw_of l.source) (scope_at l.source u) l.first l.end (drop l.next l.source.refs.now) rows after ds → Each AreUsual ds
      → RowsLeft (raw_of l.source) (scope_at l.source u) name l.here.number l.end after l.fn.out.items (rows_marks name l.first rows ds) l.i (drop l.at l.source.refs.now) l.names.names
      l.out.items;
}
