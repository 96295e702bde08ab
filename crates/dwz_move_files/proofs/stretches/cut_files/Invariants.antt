use Rattle.std.proofs.Common.{ℕ, List}
use Rattle.dwz_def_reading.specs.Documents.{Doc}
use Rattle.dwz_graph.specs.Indexed.{AreIndexes}
use Rattle.dwz_graph.specs.Across.{starts_at}
use Rattle.dwz_move_files.specs.Stretches.{AreStretches}
use Rattle.dwz_move_files.proofs.stretches.cut_files.Given as goal

abbrev pub invariant-loop-file : goal.invariant-loop-file
invariant-loop-file l = (docs : List (Doc ℕ)) → AreIndexes docs l.indexes → AreStretches docs l.indexes 0 (starts_at docs l.indexes l.file).top l.stretches.items
