use Rattle.std.proofs.Common.{◌≡◌, ◌++◌, ℕ, List, drop}
use Rattle.dwz_def_tops.specs.Spots.{EntryName}
use Rattle.dwz_def_reading.specs.Units.{RawUnit}
use Rattle.dwz_label_entries.specs.Sources.{KnowsUnit, raw_of, rows_label, scope_at}
use Rattle.dwz_label_entries.proofs.RowsLemmas.{RowsLeft}
use Rattle.dwz_graph.specs.Rows.{AreRowsMeant}
use Rattle.dwz_def_reading.specs.Documents.{Node}
use Rattle.dwz_def_reading.specs.Lists.{Each}
use Rattle.dwz_unit.specs.Rows.{EntryRow}
use Rattle.dwz_label_entries.proofs.entries.put_rows.Given as goal

abbrev pub invariant-loop-i : goal.invariant-loop-i
invariant-loop-i l = (u : RawUnit) (name : ℕ → EntryName) (rows after : List EntryRow) (ds : List (Node ℕ)) → KnowsUnit l.source l.here l.line u name → Each (λ row. row.unit ≡ l.here.number) rows
    → AreRowsMeant (raw_of l.source) (scope_at l.source u) l.first l.end (drop l.next l.source.refs.now) rows after ds
    → RowsLeft (raw_of l.source) (scope_at l.source u) name l.here.number l.i l.end (drop l.at l.source.refs.now) after l.out.items (l.fn.out.items ++ rows_label name l.first rows ds)
