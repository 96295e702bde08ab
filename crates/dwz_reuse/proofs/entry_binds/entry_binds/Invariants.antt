use Rattle.std.proofs.Common.{◌≡◌, ◌≤◌, ℕ, drop, List, Some, slice_get}
use Rattle.dwz_def_tops.specs.Alike.{any_attr, attr_binds}
use Rattle.dwz_def_tops.specs.Spots.{EntryName, Top}
use Rattle.dwz_graph.specs.Rows.{IsEntryMeant, node_refs}
use Rattle.dwz_def_reading.specs.Documents.{Node, node_map}
use Rattle.dwz_def_reading.specs.Meanings.{MeaningContext}
use Rattle.dwz_unit.specs.Rows.{EntryRow, rows_of, units_of}
use Rattle.dwz_unit.specs.Values.{Reads}
use Rattle.dwz_move.specs.Bound.{AreInto, HasTops}
use Rattle.dwz_move.proofs.BindSteps.{BindLeft}
use Rattle.dwz_reuse.proofs.entry_binds.entry_binds.Given as goal

abbrev pub invariant-loop-pair : goal.invariant-loop-pair
invariant-loop-pair l = record {
  few : l.next ≤ l.pair-index;
  reads : (row : EntryRow) → slice_get (rows_of (units_of l.units)) l.i ≡ Some row → Reads row.entry.at (drop l.pair-index l.pairs) l.cursor (drop l.pair-index row.entry.attrs);
  left : (s : MeaningContext ℕ) (numbers : List ℕ) (row : EntryRow) (d : Node ℕ) (tops : List Top) (unit : ℕ) (name : ℕ → EntryName) → HasTops tops unit l.own
      → IsEntryMeant (units_of l.units) s l.i numbers row d
      → AreInto name l.into (node_refs d)
      → BindLeft (units_of l.units) s tops unit name (drop l.pair-index row.entry.attrs) l.into l.next (any_attr (attr_binds tops unit) (node_map name d));
}
