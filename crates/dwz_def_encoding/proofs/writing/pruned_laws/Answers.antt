use Rattle.dwz_def_encoding.proofs.PrunedUnits.{units_pruned}
use Rattle.dwz_def_encoding.proofs.Renumbered.{renumbered_keys}
use Rattle.dwz_def_encoding.proofs.SlotsLemmas.{slots_stand}
use Rattle.dwz_def_encoding.proofs.Staying.{units_stay}
use Rattle.dwz_def_encoding.proofs.UsesLemmas.{uses_same}
use Rattle.dwz_def_encoding.proofs.writing.pruned_laws.Goals as goal

pub returns-clause-stays : goal.returns-clause-stays
returns-clause-stays c f sources places units own = units_stay f sources places own units

pub returns-clause-said : goal.returns-clause-said
returns-clause-said c = units_pruned

pub returns-clause-keys : goal.returns-clause-keys
returns-clause-keys c = renumbered_keys

pub returns-clause-uses : goal.returns-clause-uses
returns-clause-uses c = uses_same

pub returns-clause-slots : goal.returns-clause-slots
returns-clause-slots c = slots_stand
