use Rattle.dwz_unit.specs.Rows.{units_of}
use Rattle.dwz_layout_order.specs.Kept.{from_source, imports_at}
use Rattle.dwz_layout_order.proofs.KeptSteps.{Going}
use Rattle.dwz_layout_order.proofs.kept.put_units.Given as goal

abbrev pub invariant-loop-n : goal.invariant-loop-n
invariant-loop-n l = Going (units_of l.source.units.now) l.marks (imports_at l.plan) (from_source l.source) l.from l.fn.order.items l.n l.next l.order.items
