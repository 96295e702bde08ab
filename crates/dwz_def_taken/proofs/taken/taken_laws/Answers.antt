use Rattle.dwz_def_taken.proofs.OneFixed.{greatest, one_fixed, takes_along}
use Rattle.dwz_def_taken.proofs.FreeTops.{free_law}
use Rattle.dwz_def_taken.proofs.CommonLemmas.{copy_same}
use Rattle.dwz_def_taken.proofs.Copies.{copies_law}
use Rattle.dwz_def_taken.proofs.taken.taken_laws.Goals as goal

pub returns-clause-one : goal.returns-clause-one
returns-clause-one c = one_fixed

pub returns-clause-greatest : goal.returns-clause-greatest
returns-clause-greatest c = greatest

pub returns-clause-along : goal.returns-clause-along
returns-clause-along c = takes_along

pub returns-clause-free : goal.returns-clause-free
returns-clause-free c = free_law

pub returns-clause-copy : goal.returns-clause-copy
returns-clause-copy c = copy_same

pub returns-clause-copies : goal.returns-clause-copies
returns-clause-copies c = copies_law
