use Rattle.dwz_def_reading.proofs.PlacesRise.{entries_below, units_below}
use Rattle.dwz_def_reading.proofs.places.bound_laws.Goals as goal

pub returns-clause-units : goal.returns-clause-units
returns-clause-units c abbrevs mode before units start bytes bound is le = units_below abbrevs mode before units start bytes bound is le

pub returns-clause-entries : goal.returns-clause-entries
returns-clause-entries c bound units lie n there = entries_below bound units lie n there
