use Rattle.dwz_unit.specs.Rows.{units_of}
use Rattle.dwz_expand_sources.specs.Building.{known_view}
use Rattle.dwz_expand_sources.proofs.UnitSteps.{UnitsGo}
use Rattle.dwz_expand_sources.proofs.building.put_units.Given as goal

abbrev pub invariant-loop-n : goal.invariant-loop-n
invariant-loop-n l = UnitsGo (known_view l.known) (units_of l.units) l.initial.sources l.n l.sources
