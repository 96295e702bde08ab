use Rattle.std.proofs.Common.{take}
use Rattle.dwz_groups.specs.Spreading.{Marks}
use Rattle.dwz_groups.proofs.marks.mark.Given as goal

abbrev pub invariant-loop-n : goal.invariant-loop-n
invariant-loop-n l = Marks (take l.n-index l.list) l.fn.marks l.fn.work.items l.marks l.work.items
