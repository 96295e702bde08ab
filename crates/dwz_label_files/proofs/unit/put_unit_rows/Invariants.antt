use Rattle.dwz_unit.specs.Rows.{units_of}
use Rattle.dwz_label_files.specs.Unit.{AddsRows}
use Rattle.dwz_label_files.proofs.unit.put_unit_rows.Given as goal

abbrev pub invariant-loop-n : goal.invariant-loop-n
invariant-loop-n l = AddsRows (units_of l.units) l.n l.fn.rows.items l.rows.items
