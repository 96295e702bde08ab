use Rattle.std.proofs.Common.{◌≡◌, ℕ, ◌≤◌, drop, length, take, List, Some, Ok, slice_get}
use Rattle.dwz_def_reading.specs.Units.{RawUnit}
use Rattle.dwz_def_reading.specs.Shared.{NamedList}
use Rattle.dwz_unit.specs.Rows.{EntryRow, rows_of, units_of}
use Rattle.dwz_unit.specs.Stops.{stops_from}
use Rattle.dwz_unit.specs.Values.{Reads}
use Rattle.std.specs.List.{list_any}
use Rattle.dwz_graph_resolve.specs.FileRows.{Learns}
use Rattle.dwz_graph_resolve.specs.Parts.{numbers_file}
use Rattle.dwz_graph_resolve.specs.Named.{attr_named, collect}
use Rattle.dwz_graph_resolve.specs.Resolved.{Goes, IsHere, StateIn}
use Rattle.dwz_graph_resolve.specs.Surroundings.{common_view, scope_within}
use Rattle.dwz_graph_resolve.proofs.named.add_values.Given as goal

-- `now` values were looked at or passed over
abbrev pub invariant-loop-stop : goal.invariant-loop-stop
invariant-loop-stop l = record {
  now : ℕ;
  among : now ≤ length l.pairs;
  left : stops_from (drop now l.pairs) now 0 ≡ drop l.stop-index l.stops;
  file : l.state.file ≡ l.fn.state.file;
  reads : (row : EntryRow) → slice_get (rows_of (units_of l.units)) l.i ≡ Some row → Reads row.entry.at (drop now l.pairs) l.cursor (drop now row.entry.attrs);
  adds : (u : RawUnit) (row : EntryRow) (before : List NamedList) → IsHere (units_of l.units) u l.here → slice_get (rows_of (units_of l.units)) l.i ≡ Some row
      → StateIn l.around (units_of l.units) u l.here before l.fn.state
      → Goes {Y = Unit {0}} (common_view l.around.common) (units_of l.units) (StateIn l.around (units_of l.units) u l.here) before l.fn.state l.state (Ok tt)
      (collect (attr_named (scope_within l.around (units_of l.units) u)) (take now row.entry.attrs));
  learns : (row : EntryRow) → slice_get (rows_of (units_of l.units)) l.i ≡ Some row → Learns (list_any numbers_file (take now row.entry.attrs)) l.here.line l.fn.state.files l.state.files;
}
