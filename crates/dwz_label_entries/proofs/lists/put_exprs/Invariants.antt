use Rattle.std.proofs.Common.{◌≡◌, ◌++◌, map, drop}
use Rattle.std.specs.List.{flat_map}
use Rattle.dwz_label.specs.Labels.{parts_label}
use Rattle.dwz_def_reading.specs.Exprs.{parts_of}
use Rattle.dwz_label_entries.proofs.lists.put_exprs.Given as goal

abbrev pub invariant-loop-expr : goal.invariant-loop-expr
invariant-loop-expr l = l.out.items ++ flat_map parts_label (map parts_of (drop l.expr-index l.exprs)) ≡ l.fn.out.items ++ flat_map parts_label (map parts_of l.exprs)
