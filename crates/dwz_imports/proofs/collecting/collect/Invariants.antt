use Rattle.std.proofs.Common.{◌≡◌, map, take}
use Rattle.std.specs.List.{flat_map}
use Rattle.std.specs.Option.{option_map}
use Rattle.dwz_unit.specs.Rows.{rows_of, units_of}
use Rattle.dwz_imports.specs.Said.{raw_beside}
use Rattle.dwz_imports.specs.Stored.{row_edges, row_imports}
use Rattle.dwz_imports.proofs.collecting.collect.Given as goal

abbrev pub invariant-loop-i : goal.invariant-loop-i
invariant-loop-i l = record {
  importing : l.collected.importing.items ≡ map (row_imports (units_of l.own) (raw_beside (option_map (λ u. u.now) l.common))) (take l.i (rows_of (units_of l.own)));
  edges : l.collected.edges.items ≡ flat_map (row_edges (units_of l.own) (raw_beside (option_map (λ u. u.now) l.common))) (take l.i (rows_of (units_of l.own)));
}
