use Rattle.std.proofs.Common.{drop}
use Rattle.dwz_sup.specs.Seen.{sections_seen}
use Rattle.dwz_sup.proofs.HeaderSteps.{HeadersSoFar}
use Rattle.dwz_sup.proofs.plain.put_headers.Given as goal

abbrev pub invariant-loop-section : goal.invariant-loop-section
invariant-loop-section l = HeadersSoFar l.initial.out.items l.out.items l.name l.at (sections_seen l.sections) (sections_seen (drop l.section-index l.sections))
