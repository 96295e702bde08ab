use Rattle.dwz_def_cross.specs.CrossSame.{UnitsAlike}
use Rattle.dwz_def_cross.specs.Tops.{whole_units}
use Rattle.dwz_def_check.proofs.AnswerLemmas.{one_same}
use Rattle.dwz_def_check.proofs.laws.answer_laws.Goals as goal

pub returns : goal.returns
returns g c v w a b = one_same (UnitsAlike v w) (whole_units v.own) (whole_units w.own) a b
