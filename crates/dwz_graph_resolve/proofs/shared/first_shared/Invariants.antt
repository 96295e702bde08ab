use Rattle.std.proofs.Common.{◌+◌, ℕ, List, ◌++◌, map, take}
use Rattle.dwz_def_reading.specs.Lists.{In}
use Rattle.dwz_graph_resolve.specs.declared.lists.ListRow.{ListRow}
use Rattle.dwz_graph_resolve.specs.declared.operands.ListOperand.{ListOperand}
use Rattle.dwz_graph_resolve.specs.Apart.{HasClash, Rows, Tested}
use Rattle.dwz_graph_resolve.specs.ListRows.{own_rows, row_test, slot_test}
use Rattle.dwz_graph_resolve.proofs.shared.first_shared.Given as goal

abbrev pub invariant-loop-row : goal.invariant-loop-row
invariant-loop-row l = (xs : List ListOperand) (top : ℕ) → Rows 0 l.kept top → ((w : ListRow) → In w l.lists.rows.items → Rows (w.from + 1) (own_rows l.lists.operands.items w) w.end)
    → HasClash xs l.fn.clash
    → Tested xs l.kept l.fn.clash (map (row_test l.lists.operands.items) (take l.row-index l.row-items)) l.place

abbrev pub invariant-loop-slot : goal.invariant-loop-slot
invariant-loop-slot l = (xs : List ListOperand) (top : ℕ) → Rows 0 l.kept top → ((w : ListRow) → In w l.lists.rows.items → Rows (w.from + 1) (own_rows l.lists.operands.items w) w.end)
    → HasClash xs l.fn.clash
    → Tested xs l.kept l.fn.clash (map (row_test l.lists.operands.items) l.lists.rows.items ++ map slot_test (take l.slot-index l.slot-items)) l.place
