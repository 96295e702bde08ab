use Rattle.std.proofs.Common.{◌-◌, length}
use Rattle.dwz_unit.specs.Rows.{units_of}
use Rattle.dwz_graph.proofs.SearchLemmas.{Searched}
use Rattle.dwz_imports.specs.Stored.{roots}
use Rattle.dwz_imports.proofs.roots.unit_with_root.Given as goal

abbrev pub invariant-loop-low : goal.invariant-loop-low
invariant-loop-low l = Searched (roots (units_of l.units)) 0 (length (units_of l.units)) l.place l.low l.high

abbrev pub decreases-loop-low : goal.decreases-loop-low
decreases-loop-low l = l.high - l.low
