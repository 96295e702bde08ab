use Rattle.std.proofs.Common.{ℕ, List, ◌++◌, take}
use Rattle.dwz_takes.specs.Images.{AreLeast}
use Rattle.dwz_takes.proofs.imaged.see.Given as goal

abbrev pub invariant-loop-top : goal.invariant-loop-top
invariant-loop-top l = (seen : List ℕ) → AreLeast l.classes seen l.fn.firsts → AreLeast l.classes (seen ++ take l.top-index l.tops) l.firsts
