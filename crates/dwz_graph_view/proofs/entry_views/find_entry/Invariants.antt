use Rattle.std.proofs.Common.{◌-◌}
use Rattle.dwz_def_reading.specs.Units.{entries_in}
use Rattle.dwz_graph.specs.Places.{places}
use Rattle.dwz_graph.proofs.SearchLemmas.{Searched}
use Rattle.dwz_unit.specs.Rows.{units_of}
use Rattle.dwz_graph_view.proofs.entry_views.find_entry.Given as goal

abbrev pub invariant-loop-low : goal.invariant-loop-low
invariant-loop-low l = Searched (places (units_of l.units)) 0 (entries_in (units_of l.units)) l.offset l.low l.high

abbrev pub decreases-loop-low : goal.decreases-loop-low
decreases-loop-low l = l.high - l.low
