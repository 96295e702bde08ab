use Rattle.std.proofs.Common.{arith}
use Rattle.dwz_unit.specs.Rows.{units_of}
use Rattle.dwz_graph_view.proofs.EntrySteps.{child_none, child_some}
use Rattle.dwz_graph_view.proofs.RowSpots.{shown_end}
use Rattle.dwz_graph_view.proofs.entry_views.child_of.Goals as goal

pub overflow_add-entry : goal.overflow_add-entry
overflow_add-entry c =
    let low = (shown_end (units_of c.args.units.now) c.args.entry c.entry-end.result c.entry-end.ensures.entry).0 in
    omega (arith, low, c.entry-end.type_inv)

pub entry-requires : goal.entry-requires
entry-requires c =
    let high = (shown_end (units_of c.args.units.now) c.args.entry c.entry-end.result c.entry-end.ensures.entry).1 in
    let lt = c.if-entry-end.true in
    omega arith

pub returns-then-entry-end : goal.returns-then-entry-end
returns-then-entry-end c =
    child_some (units_of c.args.units.now) c.args.entry c.entry-end.result c.entry.result c.entry-end.ensures.entry c.if-entry-end.true c.entry.ensures.entry

pub returns-else-entry-end : goal.returns-else-entry-end
returns-else-entry-end c = child_none (units_of c.args.units.now) c.args.entry c.entry-end.result c.entry-end.ensures.entry c.if-entry-end.false
