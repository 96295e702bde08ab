use Rattle.dwz_def_check.proofs.Naming.{each_name, in_names, named_by, names_in, one_name}
use Rattle.dwz_def_check.proofs.laws.name_laws.Goals as goal

pub returns-clause-one : goal.returns-clause-one
returns-clause-one g c = one_name

pub returns-clause-each : goal.returns-clause-each
returns-clause-each g c = each_name

pub returns-clause-list : goal.returns-clause-list
returns-clause-list g c s read p x = (names_in s p x, in_names s read p x)

pub returns-clause-by : goal.returns-clause-by
returns-clause-by g c = named_by
