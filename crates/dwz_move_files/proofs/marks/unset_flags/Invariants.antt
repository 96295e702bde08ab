use Rattle.std.proofs.Common.{◌≡◌, ℕ, List, false}
use Rattle.std.specs.Prelude.{replicate}
use Rattle.dwz_def_reading.specs.Documents.{Doc}
use Rattle.dwz_graph.specs.Indexed.{AreIndexes}
use Rattle.dwz_graph.specs.Across.{starts_at}
use Rattle.dwz_move_files.proofs.marks.unset_flags.Given as goal

abbrev pub invariant-loop-index : goal.invariant-loop-index
invariant-loop-index l = (docs : List (Doc ℕ)) → AreIndexes docs l.indexes → l.flags.items ≡ replicate (starts_at docs l.indexes l.index-index).top false
