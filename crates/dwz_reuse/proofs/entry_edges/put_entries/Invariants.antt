use Rattle.std.proofs.Common.{ℕ, List}
use Rattle.dwz_def_tops.specs.Spots.{EntryName}
use Rattle.dwz_graph.specs.Rows.{AreRowsMeant}
use Rattle.dwz_def_reading.specs.Documents.{Node}
use Rattle.dwz_def_reading.specs.Meanings.{MeaningContext}
use Rattle.dwz_unit.specs.Rows.{EntryRow, units_of}
use Rattle.dwz_move.specs.Bound.{EachInto}
use Rattle.dwz_move.proofs.RowMarks.{rows_said}
use Rattle.dwz_reuse.specs.Puts.{goes_into}
use Rattle.dwz_reuse.proofs.PutSteps.{RowsPutLeft}
use Rattle.dwz_reuse.proofs.entry_edges.put_entries.Given as goal

abbrev pub invariant-loop-i : goal.invariant-loop-i
invariant-loop-i l = (s : MeaningContext ℕ) (numbers : List ℕ) (rows after : List EntryRow) (ds : List (Node ℕ)) (name : ℕ → EntryName)
    → AreRowsMeant (units_of l.units) s l.first l.end numbers rows after ds → EachInto name l.into l.starts l.first ds
    → RowsPutLeft l.unit (units_of l.units) s name l.into l.starts l.i l.end l.fn.edges.items l.edges.items (rows_said goes_into name ds)
