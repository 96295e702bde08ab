use Rattle.dwz_def_run.proofs.ReusesGotten.{got_whole}
use Rattle.dwz_def_run.proofs.ReusesLengths.{lengths_over}
use Rattle.dwz_def_run.proofs.OneReuse.{one_reuse, some_reuse}
use Rattle.dwz_def_run.proofs.OneComes.{never_no_reuse}
use Rattle.dwz_def_run.proofs.NotPut.{holds_over, not_put, stops_over}
use Rattle.dwz_def_run.proofs.reuses.reuses_laws.Goals as goal

pub returns-clause-one : goal.returns-clause-one
returns-clause-one c = one_reuse

pub returns-clause-some : goal.returns-clause-some
returns-clause-some c = some_reuse

pub returns-clause-never_nothing : goal.returns-clause-never_nothing
returns-clause-never_nothing c = never_no_reuse

pub returns-clause-not_put : goal.returns-clause-not_put
returns-clause-not_put c = not_put

pub returns-clause-stops : goal.returns-clause-stops
returns-clause-stops c = stops_over

pub returns-clause-lengths : goal.returns-clause-lengths
returns-clause-lengths c o x bytes written few = lengths_over o x bytes written few

pub returns-clause-held : goal.returns-clause-held
returns-clause-held c = holds_over

pub returns-clause-got : goal.returns-clause-got
returns-clause-got c o contents x has are store common is = got_whole store common o.files contents x are is has.0 has.1
