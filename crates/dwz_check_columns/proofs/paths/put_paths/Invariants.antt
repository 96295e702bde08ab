use Rattle.std.proofs.Common.{ℕ, List, take}
use Rattle.dwz_def_reading.specs.Documents.{DwUnit}
use Rattle.dwz_check_index.specs.declared.index.CrossStarts.{CrossStarts}
use Rattle.dwz_check_sides.specs.Says.{IsSide}
use Rattle.dwz_check_columns.specs.Paths.{PutsPaths}
use Rattle.dwz_check_columns.proofs.paths.put_paths.Given as goal

abbrev pub invariant-loop-n : goal.invariant-loop-n
invariant-loop-n l = (said : List (DwUnit ℕ)) (starts : CrossStarts) → IsSide l.side said starts → PutsPaths l.first (take l.n said) l.fn.edges.items l.edges.items
