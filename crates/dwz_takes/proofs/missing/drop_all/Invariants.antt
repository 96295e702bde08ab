use Rattle.std.proofs.Common.{take}
use Rattle.dwz_takes.specs.Steps.{Drops}
use Rattle.dwz_takes.proofs.missing.drop_all.Given as goal

abbrev pub invariant-loop-n : goal.invariant-loop-n
invariant-loop-n l = Drops (take l.n-index l.list) l.fn.flags l.fn.work.items l.flags l.work.items
