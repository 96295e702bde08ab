use Rattle.std.proofs.Common.{take}
use Rattle.dwz_takes.proofs.MarkFacts.{AreLeft}
use Rattle.dwz_takes.proofs.flags.clear_all.Given as goal

abbrev pub invariant-loop-number : goal.invariant-loop-number
invariant-loop-number l = AreLeft (take l.number-index l.list) l.fn.flags l.flags
