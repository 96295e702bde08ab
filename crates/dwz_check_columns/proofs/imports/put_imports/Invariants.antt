use Rattle.std.proofs.Common.{◌≡◌, ◌++◌, take}
use Rattle.dwz_imports.specs.Stored.{edges_of}
use Rattle.dwz_check_columns.specs.Drawn.{imports_among}
use Rattle.dwz_check_columns.proofs.imports.put_imports.Given as goal

abbrev pub invariant-loop-n : goal.invariant-loop-n
invariant-loop-n l = l.edges.items ≡ l.fn.edges.items ++ edges_of l.first (imports_among l.own l.first l.common (take l.n l.lists))
