use Rattle.std.proofs.Common.{ℕ, List}
use Rattle.dwz_def_tops.specs.Spots.{EntryName}
use Rattle.dwz_graph.specs.Rows.{AreRowsMeant}
use Rattle.dwz_def_reading.specs.Documents.{Node}
use Rattle.dwz_def_reading.specs.Meanings.{MeaningContext}
use Rattle.dwz_unit.specs.Rows.{EntryRow, units_of}
use Rattle.dwz_move.specs.Bound.{EachInto}
use Rattle.dwz_move.specs.Marked.{expression_names, expression_pins}
use Rattle.dwz_move.proofs.RowMarks.{RowsMarkLeft, rows_said}
use Rattle.dwz_move.proofs.marks.mark_entries.Given as goal

abbrev pub invariant-loop-i : goal.invariant-loop-i
invariant-loop-i l = record {
  any : (s : MeaningContext ℕ) (numbers : List ℕ) (rows after : List EntryRow) (ds : List (Node ℕ)) (name : ℕ → EntryName) → AreRowsMeant (units_of l.units) s l.first l.end numbers rows after ds
      → EachInto name l.into l.starts l.first ds
      → RowsMarkLeft expression_names (units_of l.units) s name l.into l.starts l.i l.end l.fn.named.by_any.items l.named.by_any.items (rows_said expression_names name ds);
  uleb : (s : MeaningContext ℕ) (numbers : List ℕ) (rows after : List EntryRow) (ds : List (Node ℕ)) (name : ℕ → EntryName) → AreRowsMeant (units_of l.units) s l.first l.end numbers rows after ds
      → EachInto name l.into l.starts l.first ds
      → RowsMarkLeft expression_pins (units_of l.units) s name l.into l.starts l.i l.end l.fn.named.by_uleb.items l.named.by_uleb.items (rows_said expression_pins name ds);
}
