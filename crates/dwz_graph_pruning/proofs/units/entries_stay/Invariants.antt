use Rattle.std.proofs.Common.{◌≡◌, ◌+◌, ◌++◌, drop, length, List}
use Rattle.std.specs.List.{list_all}
use Rattle.dwz_graph_pruning.specs.Stays.{row_stays}
use Rattle.dwz_graph_pruning.proofs.RowLemmas.{Between}
use Rattle.dwz_unit.specs.Rows.{EntryRow, rows_of, units_of}
use Rattle.dwz_graph_pruning.proofs.units.entries_stay.Given as goal

abbrev pub invariant-loop-i : goal.invariant-loop-i
invariant-loop-i l =
    (rows after : List EntryRow) → drop l.first (rows_of (units_of l.units)) ≡ rows ++ after → l.first + length rows ≡ l.end
    → list_all (row_stays l.slots l.known) rows ≡ list_all (row_stays l.slots l.known) (Between (row_stays l.slots l.known) (rows_of (units_of l.units)) l.i l.end)
