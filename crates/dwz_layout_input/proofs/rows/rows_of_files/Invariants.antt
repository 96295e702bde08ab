use Rattle.std.proofs.Common.{length}
use Rattle.dwz_layout_input.proofs.RowSteps.{Going, Numbering}
use Rattle.dwz_layout_input.proofs.rows.rows_of_files.Given as goal

abbrev pub invariant-loop-texts : goal.invariant-loop-texts
invariant-loop-texts l = record {
  rows : Going l.files l.indexes l.plan l.tops l.starts l.fn.all.items l.texts-iterator.rest.items l.number l.rows.items;
  numbers : Numbering l.fn.numbers.items l.left.rest.items l.number (length l.files) l.rows.items;
}
