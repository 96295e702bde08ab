use Rattle.std.proofs.Common.{◌≡◌, ◌+◌, drop, length}
use Rattle.dwz_def_reading.specs.PlainFile.{plain_contents}
use Rattle.dwz_sup.specs.Seen.{sections_seen}
use Rattle.dwz_sup.proofs.plain.contents_len.Given as goal

abbrev pub invariant-loop-section : goal.invariant-loop-section
invariant-loop-section l = l.len + length (plain_contents (sections_seen (drop l.section-index l.sections))) ≡ length (plain_contents (sections_seen l.sections))
