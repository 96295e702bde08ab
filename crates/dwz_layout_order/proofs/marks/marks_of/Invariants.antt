use Rattle.dwz_layout_order.proofs.MarkLemmas.{AreMarks}
use Rattle.dwz_layout_order.proofs.marks.marks_of.Given as goal

abbrev pub invariant-loop-top : goal.invariant-loop-top
invariant-loop-top l = AreMarks l.tops.rows l.plan.homes l.top l.marks.items
