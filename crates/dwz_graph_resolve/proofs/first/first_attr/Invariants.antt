use Rattle.std.proofs.Common.{◌≡◌, Some, slice_get}
use Rattle.dwz_unit.specs.Rows.{EntryRow, rows_of, units_of}
use Rattle.dwz_graph_resolve.proofs.RootLemmas.{SameFirst}
use Rattle.dwz_graph_resolve.proofs.first.first_attr.Given as goal

abbrev pub invariant-loop-k : goal.invariant-loop-k
invariant-loop-k l = (row : EntryRow) → slice_get (rows_of (units_of l.units)) l.entry ≡ Some row → SameFirst l.name row.entry.attrs l.k
