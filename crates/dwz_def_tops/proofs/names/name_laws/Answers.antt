use Rattle.std.proofs.Common.{ℕ, List, subst, sym}
use Rattle.dwz_def_reading.specs.Lists.{In}
use Rattle.dwz_def_tops.specs.Spots.{spots_from}
use Rattle.dwz_def_tops.proofs.NameLists.{found_there, spots_firsts}
use Rattle.dwz_def_tops.proofs.TopNumbers.{top_there}
use Rattle.dwz_def_tops.proofs.names.name_laws.Goals as goal

pub returns-clause-found : goal.returns-clause-found
returns-clause-found c unit top units kinds place there = found_there (spots_from unit top units) place (subst (λ (w : List ℕ). In place w) (sym (spots_firsts unit top units kinds)) there)

pub returns-clause-numbers : goal.returns-clause-numbers
returns-clause-numbers c = top_there
