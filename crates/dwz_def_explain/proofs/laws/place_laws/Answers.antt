use Rattle.dwz_def_explain.proofs.PlaceLemmas.{one_answer, some_answer}
use Rattle.dwz_def_explain.proofs.laws.place_laws.Goals as goal

pub returns-clause-one : goal.returns-clause-one
returns-clause-one c = one_answer

pub returns-clause-some : goal.returns-clause-some
returns-clause-some c = some_answer
