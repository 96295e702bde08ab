use Rattle.std.proofs.Common.{ℕ, List}
use Rattle.dwz_graph.specs.Files.{AreKept}
use Rattle.dwz_graph.proofs.IndexSteps.{Going}
use Rattle.dwz_graph.proofs.index_files.indexes_of.Given as goal

abbrev pub invariant-loop-file : goal.invariant-loop-file
invariant-loop-file l = (contents : List (List ℕ)) → AreKept contents l.files → Going contents l.files l.file-index l.starts l.indexes.items
