use Rattle.std.proofs.Common.{◌≡◌, ◌++◌, take}
use Rattle.dwz_layout_input.proofs.TopSteps.{own_tops}
use Rattle.dwz_layout_input.proofs.tops.add_tops.Given as goal

abbrev pub invariant-loop-top : goal.invariant-loop-top
invariant-loop-top l = l.rows.items ≡ l.initial.rows.items ++ own_tops l.file (take l.top-index l.tops)
