use Rattle.dwz_label_files.proofs.RowLemmas.{RowsTo}
use Rattle.dwz_label_files.proofs.unit.unit_rows.Given as goal

abbrev pub invariant-loop-file : goal.invariant-loop-file
invariant-loop-file l = RowsTo l.run.graph.now.given l.run.files.now l.run.indexes.now l.file-index l.rows.items
