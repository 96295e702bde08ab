use Rattle.std.proofs.Common.{take}
use Rattle.dwz_move.specs.Marked.{Marks}
use Rattle.dwz_reuse.proofs.named.mark_tops.Given as goal

abbrev pub invariant-loop-top : goal.invariant-loop-top
invariant-loop-top l = Marks (take l.top-index l.tops) l.fn.marks.items l.marks.items
