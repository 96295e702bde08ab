use Rattle.dwz_layout_input.proofs.RowSteps.{FirstsTo}
use Rattle.dwz_layout_input.proofs.rows.firsts_of.Given as goal

abbrev pub invariant-loop-entry : goal.invariant-loop-entry
invariant-loop-entry l = FirstsTo l.starts l.before-items l.entry l.firsts.items
