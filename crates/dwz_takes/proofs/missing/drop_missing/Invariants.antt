use Rattle.std.proofs.Common.{◌+◌, length}
use Rattle.dwz_takes.specs.Steps.{marked}
use Rattle.dwz_takes.proofs.MissFacts.{IsMissing}
use Rattle.dwz_takes.proofs.missing.drop_missing.Given as goal

abbrev pub invariant-work : goal.invariant-work
invariant-work l = IsMissing l.rows l.fits l.fn.flags l.flags l.work.items

abbrev pub decreases-work : goal.decreases-work
decreases-work l = length l.work.items + marked l.flags
