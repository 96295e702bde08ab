use Rattle.dwz_move_files.proofs.DraftSteps.{none_yet}
use Rattle.dwz_move_files.proofs.draft.with_room.Goals as goal

pub returns-clause-nothing : goal.returns-clause-nothing
returns-clause-nothing c = λ docs first. none_yet docs first _ c.in_ok-with_capacity.ensures.items c.in_ok-with_capacity-2.ensures.items c.in_ok-with_capacity-3.ensures.items
