use Rattle.dwz_expand_sections.proofs.ListLemmas.{IsKept}
use Rattle.dwz_expand_sections.proofs.lists.kept_rows.Given as goal

abbrev pub invariant-loop-i : goal.invariant-loop-i
invariant-loop-i l = IsKept l.operands l.numbers l.rows.items l.new.items l.i
