use Rattle.std.proofs.Common.{take}
use Rattle.dwz_takes.proofs.ImageFacts.{AreLeftOf}
use Rattle.dwz_takes.proofs.imaged.forget.Given as goal

abbrev pub invariant-loop-top : goal.invariant-loop-top
invariant-loop-top l = AreLeftOf l.classes (take l.top-index l.tops) l.fn.firsts l.firsts
