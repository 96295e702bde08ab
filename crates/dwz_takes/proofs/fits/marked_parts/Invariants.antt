use Rattle.std.proofs.Common.{take}
use Rattle.dwz_takes.specs.Steps.{IsMarkedWhole}
use Rattle.dwz_takes.proofs.FitFacts.{AreUnder}
use Rattle.dwz_takes.proofs.fits.marked_parts.Given as goal

abbrev pub invariant-loop-class : goal.invariant-loop-class
invariant-loop-class l = AreUnder (IsMarkedWhole l.rows l.classes l.names) l.watchers (take l.class-index l.own) l.fits.items
