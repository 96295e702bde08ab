use Rattle.std.proofs.Common.{◌≡◌, ◌++◌, ℕ, drop, map, List, Some, Ok, slice_get}
use Rattle.dwz_graph.specs.Rows.{node_refs}
use Rattle.dwz_def_reading.specs.Documents.{Node}
use Rattle.dwz_def_reading.specs.Meanings.{MeaningContext}
use Rattle.dwz_def_reading.specs.Meant.{node_meaning}
use Rattle.dwz_encode_operands.specs.Walked.{KeepsPlaces}
use Rattle.dwz_encode_operands.proofs.EntryLemmas.{ValuesLeft}
use Rattle.dwz_unit.specs.Rows.{EntryRow, rows_of, units_of}
use Rattle.dwz_unit.specs.Values.{Reads}
use Rattle.dwz_encode_operands.proofs.spoken.note_entry.Given as goal

abbrev pub invariant-loop-pair : goal.invariant-loop-pair
invariant-loop-pair l = record {
  reads : (row : EntryRow) → slice_get (rows_of (units_of l.units)) l.i ≡ Some row → Reads row.entry.at (drop l.pair-index l.pairs) l.cursor (drop l.pair-index row.entry.attrs);
  left : (s : MeaningContext ℕ) (row : EntryRow) (d : Node ℕ) (after : ℕ → ℕ) (more : List ℕ) → KeepsPlaces s → slice_get (rows_of (units_of l.units)) l.i ≡ Some row → node_meaning s row.entry ≡ Ok d
      → l.unit ≡ after s.unit → l.targets ≡ map after (node_refs d) ++ more → ValuesLeft s after more l.fn.first row.entry.attrs l.pair-index l.first l.left;
}
