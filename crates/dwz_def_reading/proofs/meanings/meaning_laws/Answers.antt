use Rattle.dwz_def_reading.specs.Meant.{units_meaning}
use Rattle.dwz_def_reading.proofs.AgreeLemmas.{just_one}
use Rattle.dwz_def_reading.proofs.ClassLemmas.{classes}
use Rattle.dwz_def_reading.proofs.MeaningLemmas.{value_agrees}
use Rattle.dwz_def_reading.proofs.MeaningUnits.{units_agree}
use Rattle.dwz_def_reading.proofs.meanings.meaning_laws.Goals as goal

pub returns-clause-found : goal.returns-clause-found
returns-clause-found c s a v = ((value_agrees s a).ok v).0

pub returns-clause-again : goal.returns-clause-again
returns-clause-again c s a v = ((value_agrees s a).ok v).1

pub returns-clause-fault : goal.returns-clause-fault
returns-clause-fault c s a = (value_agrees s a).err

pub returns-clause-units_found : goal.returns-clause-units_found
returns-clause-units_found c around units v = ((units_agree around units).ok v).0

pub returns-clause-units_again : goal.returns-clause-units_again
returns-clause-units_again c around units v = ((units_agree around units).ok v).1

pub returns-clause-units_fault : goal.returns-clause-units_fault
returns-clause-units_fault c around units = (units_agree around units).err

pub returns-clause-one : goal.returns-clause-one
returns-clause-one c around units = just_one (units_meaning around units) (units_agree around units)

pub returns-clause-classes : goal.returns-clause-classes
returns-clause-classes c = classes
