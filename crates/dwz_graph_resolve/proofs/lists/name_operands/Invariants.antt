use Rattle.std.proofs.Common.{take}
use Rattle.dwz_def_reading.specs.Units.{RawUnit}
use Rattle.dwz_unit.specs.Rows.{units_of}
use Rattle.dwz_graph_resolve.specs.ListSteps.{AreOperands}
use Rattle.dwz_graph_resolve.specs.Resolved.{IsHere}
use Rattle.dwz_graph_resolve.specs.Surroundings.{scope_within}
use Rattle.dwz_graph_resolve.proofs.lists.name_operands.Given as goal

abbrev pub invariant-loop-operand : goal.invariant-loop-operand
invariant-loop-operand l = (u : RawUnit) → IsHere (units_of l.units) u l.here → AreOperands (units_of l.units) l.file (scope_within l.around (units_of l.units) u) (take l.operand-index l.operands)
    l.fn.out.items l.out.items
