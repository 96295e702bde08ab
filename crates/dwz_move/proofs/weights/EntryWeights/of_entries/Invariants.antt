use Rattle.std.proofs.Common.{ℕ, ◌≤◌, List}
use Rattle.dwz_def_tops.specs.Spots.{EntryName}
use Rattle.dwz_graph.specs.Rows.{AreRowsMeant}
use Rattle.dwz_def_reading.specs.Documents.{Node}
use Rattle.dwz_def_reading.specs.Meanings.{MeaningContext}
use Rattle.dwz_unit.specs.Rows.{EntryRow, units_of}
use Rattle.dwz_move.specs.Weights.{rows_weight}
use Rattle.dwz_move.proofs.WeightSteps.{RowsLeft}
use Rattle.dwz_move.proofs.weights.EntryWeights.of_entries.Given as goal

abbrev pub invariant-loop-i : goal.invariant-loop-i
invariant-loop-i l = record {
  few : l.weight ≤ 64;
  left : (s : MeaningContext ℕ) (numbers : List ℕ) (rows after : List EntryRow) (ds : List (Node ℕ)) (name : ℕ → EntryName) → AreRowsMeant (units_of l.self) s l.first l.end numbers rows after ds
      → RowsLeft (units_of l.self) s name l.i l.end l.weight (rows_weight name l.first rows ds);
}
