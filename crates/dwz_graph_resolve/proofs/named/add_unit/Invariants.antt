use Rattle.std.proofs.Common.{◌≡◌, ℕ, ◌-◌, List, take, Some, Ok, slice_get}
use Rattle.std.specs.List.{list_any}
use Rattle.dwz_def_reading.specs.Units.{RawUnit, entries_in}
use Rattle.dwz_def_reading.specs.Shared.{NamedList}
use Rattle.dwz_unit.specs.Rows.{units_of}
use Rattle.dwz_graph_resolve.specs.FileRows.{Learns}
use Rattle.dwz_graph_resolve.specs.Named.{collect, entries_of, entry_named}
use Rattle.dwz_graph_resolve.specs.Parts.{GoesOn, IsParted}
use Rattle.dwz_graph_resolve.specs.Resolved.{Goes, StateAt, StateIn}
use Rattle.dwz_graph_resolve.specs.Surroundings.{around_in, common_view, scope_within}
use Rattle.dwz_graph_resolve.proofs.LineSteps.{entry_numbers}
use Rattle.dwz_graph_resolve.proofs.named.add_unit.Given as goal

abbrev pub invariant-loop-i : goal.invariant-loop-i
invariant-loop-i l = record {
  file : l.state.file ≡ l.fn.state.file;
  goes : (u : RawUnit) (before : List NamedList) → slice_get (units_of l.units) l.n ≡ Some u → StateAt l.around (units_of l.units) l.n before l.fn.state
      → Goes {Y = Unit {0}} (common_view l.around.common) (units_of l.units) (StateIn l.around (units_of l.units) u l.here) before l.fn.state l.state (Ok tt)
      (collect (entry_named (scope_within l.around (units_of l.units) u)) (take (l.i - l.here.first) (entries_of u)));
  starts : (first : ℕ) (before : List NamedList) → StateAt l.around (units_of l.units) l.n before l.fn.state → IsParted l.around (units_of l.units) first l.n l.fn.state l.fn.parts
      → GoesOn (around_in l.around (units_of l.units)) (units_of l.units) (entries_in (take first (units_of l.units))) l.i l.state.refs.items l.parts.starts.items;
  lines : l.parts.lines ≡ l.fn.parts.lines;
  learns : (u : RawUnit) → slice_get (units_of l.units) l.n ≡ Some u → Learns (list_any entry_numbers (take (l.i - l.here.first) (entries_of u))) l.here.line l.fn.state.files l.state.files;
}
