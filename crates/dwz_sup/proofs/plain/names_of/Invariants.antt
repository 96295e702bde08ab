use Rattle.std.proofs.Common.{◌≡◌, ◌++◌, ◌∷◌, drop}
use Rattle.dwz_def_reading.specs.PlainFile.{section_names}
use Rattle.dwz_sup.specs.Seen.{sections_seen}
use Rattle.dwz_sup.proofs.plain.names_of.Given as goal

abbrev pub invariant-loop-section : goal.invariant-loop-section
invariant-loop-section l = l.names.items ++ section_names (sections_seen (drop l.section-index l.sections)) ≡ 0 ∷ section_names (sections_seen l.sections)
