use Rattle.std.proofs.Common.{◌-◌}
use Rattle.dwz_unit.specs.Rows.{units_of}
use Rattle.dwz_check_index.proofs.ListBuilding.{Goes}
use Rattle.dwz_check_index.proofs.index.CrossIndex.+put_list.Given as goal

abbrev pub decreases-put_list : goal.decreases-put_list
decreases-put_list l = l.end - l.first

abbrev pub invariant-loop-entry : goal.invariant-loop-entry
invariant-loop-entry l = Goes (units_of l.units) l.first l.end l.unit l.up l.stands l.initial.self l.self l.entry l.index

abbrev pub decreases-loop-entry : goal.decreases-loop-entry
decreases-loop-entry l = l.end - l.entry
