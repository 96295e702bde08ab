use Rattle.std.proofs.Common.{◌-◌, List, length}
use Rattle.dwz_def_reading.specs.Input.{input}
use Rattle.dwz_def_reading.specs.Files.{is_place_of}
use Rattle.dwz_def_reading.specs.Ranges.{RangeSet, sets_at}
use Rattle.dwz_unit.specs.Rows.{units_of}
use Rattle.dwz_graph_resolve.proofs.SetSteps.{Leads}
use Rattle.dwz_graph_resolve.proofs.ranges.check_ranges.Given as goal

abbrev pub invariant-loop-at : goal.invariant-loop-at
invariant-loop-at l = Leads (List RangeSet) (sets_at (is_place_of (units_of l.units)) (input l.section l.at)) (sets_at (is_place_of (units_of l.units)) (input l.section 0))

abbrev pub decreases-loop-at : goal.decreases-loop-at
decreases-loop-at l = length l.section - l.at
