use Rattle.std.proofs.Common.{◌≡◌, ◌-◌, [], take, Ok}
use Rattle.std.specs.Prelude.{slice_range}
use Rattle.dwz_unit.specs.Rows.{units_of}
use Rattle.dwz_graph_resolve.specs.Named.{collect, unit_named}
use Rattle.dwz_graph_resolve.specs.Parts.{IsParted}
use Rattle.dwz_graph_resolve.specs.Resolved.{Goes, StateAt}
use Rattle.dwz_graph_resolve.specs.Surroundings.{around_in, common_view}
use Rattle.dwz_graph_resolve.proofs.named.add_units.Given as goal

abbrev pub invariant-loop-n : goal.invariant-loop-n
invariant-loop-n l = record {
  file : l.state.file ≡ l.fn.state.file;
  goes : StateAt l.around (units_of l.units) l.first [] l.fn.state
      → Goes {Y = Unit {0}} (common_view l.around.common) (units_of l.units) (StateAt l.around (units_of l.units) l.n) [] l.fn.state l.state (Ok tt)
      (collect (unit_named (around_in l.around (units_of l.units))) (take (l.n - l.first) (slice_range (units_of l.units) l.first l.end)));
  parts : StateAt l.around (units_of l.units) l.first [] l.fn.state → IsParted l.around (units_of l.units) l.first l.first l.fn.state l.fn.parts
      → IsParted l.around (units_of l.units) l.first l.n l.state l.parts;
}
