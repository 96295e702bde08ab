use Rattle.std.proofs.Common.{◌≡◌, ◌++◌, drop}
use Rattle.dwz_def_reading.specs.PlainFile.{plain_contents}
use Rattle.dwz_sup.specs.Seen.{sections_seen}
use Rattle.dwz_sup.proofs.plain.put_contents.Given as goal

abbrev pub invariant-loop-section : goal.invariant-loop-section
invariant-loop-section l = l.out.items ++ plain_contents (sections_seen (drop l.section-index l.sections)) ≡ l.initial.out.items ++ plain_contents (sections_seen l.sections)
