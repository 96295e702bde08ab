use Rattle.std.proofs.Common.{◌≡◌, ◌++◌, take}
use Rattle.dwz_layout_input.proofs.TopSteps.{own_spaces}
use Rattle.dwz_layout_input.proofs.tops.add_spaces.Given as goal

abbrev pub invariant-loop-space : goal.invariant-loop-space
invariant-loop-space l = l.rows.items ≡ l.initial.rows.items ++ own_spaces l.file (take l.space-index l.spaces)
