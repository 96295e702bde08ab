use Rattle.std.proofs.Common.{take}
use Rattle.dwz_takes.specs.Steps.{IsMarkedWhole}
use Rattle.dwz_takes.proofs.FitFacts.{Adds}
use Rattle.dwz_takes.proofs.fits.add_marked.Given as goal

abbrev pub invariant-loop-part : goal.invariant-loop-part
invariant-loop-part l = Adds (IsMarkedWhole l.rows l.classes l.names) l.fn.fits.items (take l.part-index l.parts) l.fits.items
