use Rattle.dwz_expand_sections.proofs.ListedLemmas.{FirstTo}
use Rattle.dwz_expand_sections.proofs.listed.first_listed.Given as goal

abbrev pub invariant-loop-i : goal.invariant-loop-i
invariant-loop-i l = FirstTo l.operands l.numbers l.i l.first
