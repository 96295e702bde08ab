use Rattle.std.proofs.Common.{◌≡◌, ◌+◌, ◌++◌, ℕ, drop, length, map, List}
use Rattle.dwz_graph.specs.Rows.{RowsMean, nodes_refs}
use Rattle.dwz_def_reading.specs.Documents.{Node}
use Rattle.dwz_def_reading.specs.Meanings.{MeaningContext}
use Rattle.dwz_encode_operands.specs.Walked.{KeepsPlaces}
use Rattle.dwz_encode_operands.proofs.EntryLemmas.{RowsLeft}
use Rattle.dwz_unit.specs.Rows.{EntryRow, rows_of, units_of}
use Rattle.dwz_encode_operands.proofs.spoken.note_entries.Given as goal

abbrev pub invariant-loop-i : goal.invariant-loop-i
invariant-loop-i l = (s : MeaningContext ℕ) (rows after_them : List EntryRow) (ds : List (Node ℕ)) (after : ℕ → ℕ) (more : List ℕ) → KeepsPlaces s
    → drop l.from (rows_of (units_of l.units)) ≡ rows ++ after_them → l.from + length rows ≡ l.end → RowsMean s rows ds
    → l.unit ≡ after s.unit → l.targets ≡ map after (nodes_refs ds) ++ more
    → RowsLeft s after more l.fn.first (rows_of (units_of l.units)) rows l.i l.end l.first l.left
