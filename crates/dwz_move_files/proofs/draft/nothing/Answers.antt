use Rattle.dwz_move_files.proofs.DraftSteps.{none_yet}
use Rattle.dwz_move_files.proofs.draft.nothing.Goals as goal

pub returns : goal.returns
returns c = λ docs first. none_yet docs first _ c.new.ensures.items c.new-2.ensures.items c.new-3.ensures.items
