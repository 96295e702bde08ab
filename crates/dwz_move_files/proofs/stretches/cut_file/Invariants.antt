use Rattle.std.proofs.Common.{◌≡◌, ℕ, ◌+◌, ◌-◌, ◌≤◌, List, length, Some, slice_get}
use Rattle.dwz_def_reading.specs.Documents.{Doc}
use Rattle.dwz_graph.specs.Index.{Index}
use Rattle.dwz_graph.specs.Across.{starts_at}
use Rattle.dwz_move_files.specs.Stretches.{AreStretches}
use Rattle.dwz_move_files.proofs.stretches.cut_file.Given as goal

abbrev pub invariant-loop-start : goal.invariant-loop-start
invariant-loop-start l = record {
  low : l.start ≤ l.tops;
  cut : (docs : List (Doc ℕ)) (indexes : List Index) (x : Index) → slice_get indexes l.file ≡ Some x → length x.tops ≡ l.tops
      → AreStretches docs indexes 0 (starts_at docs indexes l.file).top l.fn.stretches.items
      → AreStretches docs indexes 0 ((starts_at docs indexes l.file).top + l.start) l.stretches.items;
}

abbrev pub decreases-loop-start : goal.decreases-loop-start
decreases-loop-start l = l.tops - l.start
