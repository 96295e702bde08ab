use Rattle.dwz_label_marks.proofs.ToldLemmas.{word_law}
use Rattle.dwz_label_marks.proofs.laws.word_laws.Goals as goal

pub returns : goal.returns
returns c = word_law
