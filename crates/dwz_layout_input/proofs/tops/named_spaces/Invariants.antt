use Rattle.std.proofs.Common.{◌≡◌, ◌++◌, drop}
use Rattle.dwz_law_layout.specs.Listed.{space_rows}
use Rattle.dwz_layout_input.proofs.tops.named_spaces.Given as goal

abbrev pub invariant-loop-i : goal.invariant-loop-i
invariant-loop-i l = l.spaces.items ++ space_rows (drop l.i l.rows) (drop l.i l.texts) (drop l.i l.commons) ≡ space_rows l.rows l.texts l.commons
