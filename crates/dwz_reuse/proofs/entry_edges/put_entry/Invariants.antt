use Rattle.std.proofs.Common.{◌≡◌, ℕ, drop, List, Some, slice_get}
use Rattle.dwz_def_tops.specs.Alike.{any_attr}
use Rattle.dwz_def_tops.specs.Spots.{EntryName}
use Rattle.dwz_graph.specs.Rows.{IsEntryMeant, node_refs}
use Rattle.dwz_def_reading.specs.Documents.{Node, node_map}
use Rattle.dwz_def_reading.specs.Meanings.{MeaningContext}
use Rattle.dwz_unit.specs.Rows.{EntryRow, rows_of, units_of}
use Rattle.dwz_unit.specs.Values.{Reads}
use Rattle.dwz_move.specs.Bound.{AreInto}
use Rattle.dwz_reuse.specs.Puts.{goes_into}
use Rattle.dwz_reuse.proofs.PutSteps.{PutLeft}
use Rattle.dwz_reuse.proofs.entry_edges.put_entry.Given as goal

abbrev pub invariant-loop-pair : goal.invariant-loop-pair
invariant-loop-pair l = record {
  reads : (row : EntryRow) → slice_get (rows_of (units_of l.units)) l.i ≡ Some row → Reads row.entry.at (drop l.pair-index l.pairs) l.cursor (drop l.pair-index row.entry.attrs);
  left : (s : MeaningContext ℕ) (numbers : List ℕ) (row : EntryRow) (d : Node ℕ) (name : ℕ → EntryName) → IsEntryMeant (units_of l.units) s l.i numbers row d → AreInto name l.into (node_refs d)
      → PutLeft l.unit (units_of l.units) s name (drop l.pair-index row.entry.attrs) l.rest l.fn.edges.items l.edges.items (λ n. any_attr (goes_into n) (node_map name d));
}
