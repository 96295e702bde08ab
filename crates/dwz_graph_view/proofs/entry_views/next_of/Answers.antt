use Rattle.dwz_unit.specs.Rows.{units_of}
use Rattle.std.proofs.Common.{arith}
use Rattle.dwz_graph_view.proofs.EntrySteps.{next_last, next_other, next_some}
use Rattle.dwz_graph_view.proofs.entry_views.next_of.Goals.{else-next-row-via-then-next-row+else-next-row-2, else-next-row-via-else-next-row}
use Rattle.dwz_graph_view.proofs.entry_views.next_of.Goals as goal

pub returns-then-row-entries : goal.returns-then-row-entries
returns-then-row-entries c = λ around first e is.
    next_last (units_of c.args.units.now) c.args.entry c.entry-row.result c.entry-row.ensures.entry around first e is (omega (arith, c.if-row-entries.true, c.entries.ensures))

pub returns-then-next-row-2 : goal.returns-then-next-row-2
returns-then-next-row-2 c = λ around first e is.
    next_some (units_of c.args.units.now) c.args.entry c.entry-row.result c.entry-row.ensures.entry around first e is c.entry-next.result c.entry-next.ensures.entry c.if-next-row.true c.if-next-row-2.true

pub returns-else-next-row : goal.returns-else-next-row
returns-else-next-row c = λ around first e is.
    next_other (units_of c.args.units.now) c.args.entry c.entry-row.result c.entry-row.ensures.entry around first e is c.entry-next.result c.entry-next.ensures.entry (λ of_unit of_depth.
    elim c.else-next-row.branch [
      | else-next-row-via-then-next-row+else-next-row-2 w ↦ w.if-next-row-2.false of_depth
      | else-next-row-via-else-next-row w ↦ w.if-next-row.false of_unit
    ])
