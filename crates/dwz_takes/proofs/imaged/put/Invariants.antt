use Rattle.std.proofs.Common.{take}
use Rattle.dwz_takes.specs.Images.{ArePut}
use Rattle.dwz_takes.proofs.imaged.put.Given as goal

abbrev pub invariant-loop-top : goal.invariant-loop-top
invariant-loop-top l = ArePut l.classes (take l.top-index l.tops) l.firsts l.fn.images l.images
