use Rattle.std.proofs.Common.{◌≡◌, false, All, map, take}
use Rattle.dwz_layout_input.proofs.behind.rows_behind.Given as goal

abbrev pub invariant-loop-number : goal.invariant-loop-number
invariant-loop-number l = (map (λ row. row.unit) l.rows.items ≡ take l.number l.units) × All (λ row. row.movable ≡ false) l.rows.items
