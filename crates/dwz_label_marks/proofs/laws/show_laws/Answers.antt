use Rattle.dwz_label_marks.proofs.ApartLemmas.{made_apart}
use Rattle.dwz_label_marks.proofs.ShownLemmas.{marks_apart, whole_apart}
use Rattle.dwz_label_marks.proofs.laws.show_laws.Goals as goal

pub returns-clause-nodes : goal.returns-clause-nodes
returns-clause-nodes c = made_apart

pub returns-clause-marks : goal.returns-clause-marks
returns-clause-marks c = marks_apart

pub returns-clause-whole : goal.returns-clause-whole
returns-clause-whole c = whole_apart
