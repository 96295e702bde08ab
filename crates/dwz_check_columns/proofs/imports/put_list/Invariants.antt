use Rattle.std.proofs.Common.{◌≡◌, ◌++◌, map, take}
use Rattle.dwz_imports.specs.Stored.{edge}
use Rattle.dwz_check_columns.specs.Drawn.{among_all}
use Rattle.dwz_check_columns.proofs.imports.put_list.Given as goal

abbrev pub invariant-loop-part : goal.invariant-loop-part
invariant-loop-part l = l.edges.items ≡ l.fn.edges.items ++ map (edge l.key) (map (among_all l.own l.first l.common) (take l.part-index l.parts))
