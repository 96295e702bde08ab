use Rattle.dwz_layout_input.proofs.TopMarks.{marks_are}
use Rattle.dwz_layout_input.proofs.outline.mark_laws.Goals as goal

pub returns : goal.returns
returns c = marks_are
