use Rattle.dwz_layout_order.proofs.ChangedLemmas.{Flagged}
use Rattle.dwz_layout_order.proofs.changed.changed_files.Given as goal

abbrev pub invariant-loop-top : goal.invariant-loop-top
invariant-loop-top l = Flagged l.tops.rows l.plan.homes l.tops.files_of_units l.files l.top l.flags.items
