use Rattle.std.proofs.Common.{◌≡◌, ◌++◌, map, take}
use Rattle.dwz_unit.specs.Stretches.{later_row}
use Rattle.dwz_unit.proofs.joining.add_rows.Given as goal

abbrev pub invariant-loop-row : goal.invariant-loop-row
invariant-loop-row l = l.rows.items ≡ l.fn.rows.items ++ map (later_row l.units l.entries) (take l.row-index l.more)
