use Rattle.std.proofs.Common.{take}
use Rattle.dwz_move.specs.Marked.{Marks}
use Rattle.dwz_layout_input.specs.Places.{list_spaces}
use Rattle.dwz_layout_input.proofs.pinned.pin_lists.Given as goal

abbrev pub invariant-loop-row : goal.invariant-loop-row
invariant-loop-row l = Marks (list_spaces l.numbers (take l.row-index l.rows)) l.fn.flags.items l.flags.items
