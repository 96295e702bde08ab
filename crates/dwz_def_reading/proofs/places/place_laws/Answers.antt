use Rattle.dwz_def_reading.proofs.ListsMapped.{lists_mapped}
use Rattle.dwz_def_reading.proofs.PlacesMapped.{units_mapped}
use Rattle.dwz_def_reading.proofs.PlacesNumbered.{units_numbered}
use Rattle.dwz_def_reading.proofs.places.place_laws.Goals as goal

pub returns-clause-mapped : goal.returns-clause-mapped
returns-clause-mapped g c f bound a b h units lie = units_mapped f bound a b h units lie

pub returns-clause-numbered : goal.returns-clause-numbered
returns-clause-numbered g c bound a below units lie = units_numbered bound a below units lie

pub returns-clause-lists : goal.returns-clause-lists
returns-clause-lists g c a b sources all units = lists_mapped a b sources all units
