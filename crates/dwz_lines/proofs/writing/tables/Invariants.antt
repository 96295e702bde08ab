use Rattle.std.proofs.Common.{◌≡◌, ◌++◌, drop}
use Rattle.dwz_def_reading.specs.LinesWritten.{rows_bytes}
use Rattle.dwz_lines.proofs.writing.tables.Given as goal

abbrev pub invariant-loop-path : goal.invariant-loop-path
invariant-loop-path l = l.out.items ++ rows_bytes (drop l.path-index l.paths) ≡ l.initial.out.items ++ rows_bytes l.paths
