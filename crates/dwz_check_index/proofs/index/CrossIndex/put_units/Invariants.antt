use Rattle.dwz_unit.specs.Rows.{units_of}
use Rattle.dwz_check_index.proofs.UnitBuilding.{UnitsGo}
use Rattle.dwz_check_index.proofs.index.CrossIndex.put_units.Given as goal

abbrev pub invariant-loop-n : goal.invariant-loop-n
invariant-loop-n l = UnitsGo (units_of l.units) l.initial.self l.n l.whole l.self
