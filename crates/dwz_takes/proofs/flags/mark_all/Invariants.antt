use Rattle.std.proofs.Common.{take}
use Rattle.dwz_takes.specs.Steps.{AreMarked}
use Rattle.dwz_takes.proofs.flags.mark_all.Given as goal

abbrev pub invariant-loop-number : goal.invariant-loop-number
invariant-loop-number l = AreMarked (take l.number-index l.list) l.flags
