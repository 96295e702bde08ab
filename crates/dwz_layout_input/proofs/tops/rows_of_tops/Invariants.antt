use Rattle.std.proofs.Common.{◌≡◌, ◌++◌, drop}
use Rattle.dwz_law_layout.specs.Listed.{top_rows}
use Rattle.dwz_layout_input.proofs.tops.rows_of_tops.Given as goal

abbrev pub invariant-loop-file : goal.invariant-loop-file
invariant-loop-file l = l.rows.items ++ top_rows l.file (drop l.file l.indexes) ≡ top_rows 0 l.indexes
