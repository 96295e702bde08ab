use Rattle.dwz_def_reading.specs.Exprs.{expr_at}
use Rattle.dwz_def_reading.proofs.AgreeLemmas.{just_one}
use Rattle.dwz_def_reading.proofs.ExprLemmas.{expr_agrees}
use Rattle.dwz_def_reading.proofs.exprs.expr_laws.Goals as goal

pub returns-clause-read : goal.returns-clause-read
returns-clause-read g c i = (expr_agrees c i).ok

pub returns-clause-fault : goal.returns-clause-fault
returns-clause-fault g c i = (expr_agrees c i).err

pub returns-clause-one : goal.returns-clause-one
returns-clause-one g c start bytes = just_one (expr_at c (record { at = start; rest = bytes })) (expr_agrees c (record { at = start; rest = bytes }))
