use Rattle.std.proofs.Common.{◌-◌}
use Rattle.dwz_unit.specs.Rows.{units_of}
use Rattle.dwz_expand_sources.proofs.ListSteps.{Goes}
use Rattle.dwz_expand_sources.proofs.building.put_kept.Given as goal

abbrev pub invariant-loop-at : goal.invariant-loop-at
invariant-loop-at l = Goes (units_of l.units) l.importing l.first l.end l.initial.ranges.items l.ranges.items l.from l.at

abbrev pub decreases-loop-at : goal.decreases-loop-at
decreases-loop-at l = l.end - l.at
