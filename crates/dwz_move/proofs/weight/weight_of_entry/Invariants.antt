use Rattle.std.proofs.Common.{◌≡◌, ℕ, drop, List, Some, slice_get}
use Rattle.std.specs.Prelude.{nat_lt, ◌+◌}
use Rattle.dwz_def_tops.specs.Spots.{EntryName}
use Rattle.dwz_graph.specs.Rows.{IsEntryMeant}
use Rattle.dwz_def_reading.specs.Documents.{Node, node_map}
use Rattle.dwz_def_reading.specs.Meanings.{MeaningContext}
use Rattle.dwz_unit.specs.Rows.{EntryRow, rows_of, units_of}
use Rattle.dwz_unit.specs.Values.{Reads}
use Rattle.dwz_move.specs.Weights.{node_weight}
use Rattle.dwz_move.proofs.WeightSteps.{AreLeft}
use Rattle.dwz_move.proofs.weight.weight_of_entry.Given as goal

abbrev pub invariant-loop-pair : goal.invariant-loop-pair
invariant-loop-pair l = record {
  reads : (row : EntryRow) → slice_get (rows_of (units_of l.units)) l.i ≡ Some row → Reads row.entry.at (drop l.pair-index l.pairs) l.cursor (drop l.pair-index row.entry.attrs);
  left : (s : MeaningContext ℕ) (numbers : List ℕ) (row : EntryRow) (d : Node ℕ) (name : ℕ → EntryName) → IsEntryMeant (units_of l.units) s l.i numbers row d
      → AreLeft (units_of l.units) s name (drop l.pair-index row.entry.attrs) l.weight (node_weight (nat_lt (l.i + 1) row.end) (node_map name d));
}
