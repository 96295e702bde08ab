use Rattle.std.proofs.Common.{take}
use Rattle.dwz_takes.proofs.MissFacts.{AreDropped}
use Rattle.dwz_takes.proofs.missing.drop_first.Given as goal

abbrev pub invariant-loop-part : goal.invariant-loop-part
invariant-loop-part l = AreDropped l.rows l.fits (take l.part-index l.fits) l.fn.flags l.flags l.work.items
