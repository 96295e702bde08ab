use Rattle.std.proofs.Common.{take}
use Rattle.dwz_model.specs.Lists.{Each}
use Rattle.dwz_check_rows.specs.UnitRows.{IsInside}
use Rattle.dwz_test_check.proofs.fitting.are_inside.Given as goal

abbrev pub invariant-loop-unit : goal.invariant-loop-unit
invariant-loop-unit l = Each (IsInside l.count) (take l.unit-index l.units)
