use Rattle.std.proofs.Common.{◌≡◌, drop, Some, slice_get}
use Rattle.std.specs.List.{list_all}
use Rattle.dwz_graph_pruning.proofs.RowLemmas.{passes}
use Rattle.dwz_unit.specs.Rows.{EntryRow, rows_of, units_of}
use Rattle.dwz_unit.specs.Values.{Reads}
use Rattle.dwz_graph_pruning.proofs.units.entry_stays.Given as goal

abbrev pub invariant-loop-pair : goal.invariant-loop-pair
invariant-loop-pair l = record {
  reads : (row : EntryRow) → slice_get (rows_of (units_of l.units)) l.i ≡ Some row → Reads row.entry.at (drop l.pair-index l.pairs) l.cursor (drop l.pair-index row.entry.attrs);
  left : (row : EntryRow) → slice_get (rows_of (units_of l.units)) l.i ≡ Some row
      → list_all (passes l.slots l.known) row.entry.attrs ≡ list_all (passes l.slots l.known) (drop l.pair-index row.entry.attrs);
}
