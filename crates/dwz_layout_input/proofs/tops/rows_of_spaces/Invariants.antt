use Rattle.std.proofs.Common.{◌≡◌, ◌++◌, drop}
use Rattle.dwz_law_layout.specs.Listed.{space_entries}
use Rattle.dwz_layout_input.proofs.tops.rows_of_spaces.Given as goal

abbrev pub invariant-loop-file : goal.invariant-loop-file
invariant-loop-file l = l.rows.items ++ space_entries l.file (drop l.file l.indexes) ≡ space_entries 0 l.indexes
