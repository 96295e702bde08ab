use Rattle.std.proofs.Common.{ℕ, List, map}
use Rattle.std.specs.List.{list_any}
use Rattle.dwz_def_tops.specs.Alike.{entry_binds}
use Rattle.dwz_def_tops.specs.Spots.{EntryName, Top}
use Rattle.dwz_graph.specs.Rows.{AreRowsMeant}
use Rattle.dwz_def_reading.specs.Documents.{Node, node_map}
use Rattle.dwz_def_reading.specs.Meanings.{MeaningContext}
use Rattle.dwz_unit.specs.Rows.{EntryRow, units_of}
use Rattle.dwz_move.specs.Bound.{EachInto, HasTops}
use Rattle.dwz_move.proofs.TopSteps.{RowsBindLeft}
use Rattle.dwz_reuse.proofs.entry_binds.entries_bind.Given as goal

abbrev pub invariant-loop-i : goal.invariant-loop-i
invariant-loop-i l = (s : MeaningContext ℕ) (numbers : List ℕ) (rows after : List EntryRow) (ds : List (Node ℕ)) (tops : List Top) (unit : ℕ) (name : ℕ → EntryName) → HasTops tops unit l.own
    → AreRowsMeant (units_of l.units) s l.first l.end numbers rows after ds → EachInto name l.into l.starts l.first ds
    → RowsBindLeft (units_of l.units) s tops unit name l.into l.starts l.i l.end (list_any (entry_binds tops unit) (map (node_map name) ds))
