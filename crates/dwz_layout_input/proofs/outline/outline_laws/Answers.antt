use Rattle.dwz_layout_input.proofs.OutlineNeeds.{outline_shows}
use Rattle.dwz_layout_input.proofs.outline.outline_laws.Goals as goal

pub returns : goal.returns
returns c = outline_shows
