use Rattle.std.proofs.Common.{take}
use Rattle.dwz_move.specs.Marked.{Marks, asked_tops}
use Rattle.dwz_move.proofs.marks.mark_operands.Given as goal

abbrev pub invariant-loop-k : goal.invariant-loop-k
invariant-loop-k l = Marks (asked_tops l.ulebs (take l.k l.operands) l.into) l.fn.marks.items l.marks.items
