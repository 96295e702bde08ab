use Rattle.std.proofs.Common.{◌≡◌, ◌++◌, take}
use Rattle.dwz_def_tops.specs.Spots.{EntryName}
use Rattle.dwz_layout_items.specs.Order.{Names, import_lines, order_lines}
use Rattle.dwz_layout_items.proofs.kept.put_imports.Given as goal

abbrev pub invariant-loop-part : goal.invariant-loop-part
invariant-loop-part l = (names : Names EntryName) → order_lines names l.order.items ≡ order_lines names l.fn.order.items ++ import_lines names (take l.part-index l.imports)
