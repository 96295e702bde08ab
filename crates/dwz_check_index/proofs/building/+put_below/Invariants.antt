use Rattle.std.proofs.Common.{◌-◌}
use Rattle.dwz_unit.specs.Rows.{units_of}
use Rattle.dwz_check_index.proofs.BelowBuilding.{Goes}
use Rattle.dwz_check_index.proofs.building.+put_below.Given as goal

abbrev pub decreases-put_below : goal.decreases-put_below
decreases-put_below l = l.end - l.first

abbrev pub invariant-loop-entry : goal.invariant-loop-entry
invariant-loop-entry l = Goes (units_of l.units) l.first l.end l.up l.stands l.initial.steps.items l.steps.items l.entry l.index

abbrev pub decreases-loop-entry : goal.decreases-loop-entry
decreases-loop-entry l = l.end - l.entry
