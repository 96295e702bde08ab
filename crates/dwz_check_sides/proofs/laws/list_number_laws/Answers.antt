use Rattle.dwz_check_sides.proofs.ListNumbers.{kept_numbers, list_numbers}
use Rattle.dwz_check_sides.proofs.laws.list_number_laws.Goals as goal

pub returns-clause-one : goal.returns-clause-one
returns-clause-one c = list_numbers

pub returns-clause-kept : goal.returns-clause-kept
returns-clause-kept c = kept_numbers
