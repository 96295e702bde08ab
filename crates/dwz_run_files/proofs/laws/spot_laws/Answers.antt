use Rattle.dwz_run_files.proofs.EntryPlaces.{entry_places}
use Rattle.dwz_run_files.proofs.UnitPlaces.{unit_begins}
use Rattle.dwz_run_files.proofs.laws.spot_laws.Goals as goal

pub returns-clause-entries : goal.returns-clause-entries
returns-clause-entries c = λ beside f t k orders lay n bytes x index h changed e i lt is.
    entry_places beside f t k orders lay n bytes x index h changed e i lt is

pub returns-clause-units : goal.returns-clause-units
returns-clause-units c = λ beside f t k orders lay n bytes x index h changed start start_is j lt.
    unit_begins beside f t k orders lay n bytes x index h changed start start_is j lt
