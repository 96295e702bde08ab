use Rattle.std.proofs.Common.{◌≡◌, ◌++◌, map, take}
use Rattle.dwz_unit.specs.Stretches.{later_unit}
use Rattle.dwz_unit.proofs.joining.add_units.Given as goal

abbrev pub invariant-loop-unit : goal.invariant-loop-unit
invariant-loop-unit l = l.units.items ≡ l.fn.units.items ++ map (later_unit l.entries) (take l.unit-index l.more)
