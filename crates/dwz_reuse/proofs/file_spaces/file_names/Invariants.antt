use Rattle.dwz_reuse.specs.FileSpaces.{HaveIndexes}
use Rattle.dwz_reuse.proofs.file_spaces.file_names.Given as goal

abbrev pub invariant-loop-file : goal.invariant-loop-file
invariant-loop-file l = HaveIndexes l.files l.file-index l.indexes.items
