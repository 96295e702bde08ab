use Rattle.dwz_label_words.proofs.UsualLemmas.{usual_rows, usual_value}
use Rattle.dwz_label_words.proofs.laws.usual_laws.Goals as goal

pub returns-clause-values : goal.returns-clause-values
returns-clause-values c = usual_value

pub returns-clause-rows : goal.returns-clause-rows
returns-clause-rows c = usual_rows
