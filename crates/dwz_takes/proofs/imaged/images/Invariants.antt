use Rattle.dwz_takes.proofs.ImageFacts.{AreImagesTo}
use Rattle.dwz_takes.proofs.imaged.images.Given as goal

abbrev pub invariant-loop-unit : goal.invariant-loop-unit
invariant-loop-unit l = AreImagesTo l.rows l.unit l.images.items l.firsts.items
