use Rattle.std.proofs.Common.{◌≡◌, ◌≤◌, Some, slice_get}
use Rattle.dwz_graph.specs.declared.index.TopEntry.{TopEntry}
use Rattle.dwz_move_files.proofs.ranges.unit_start.Given as goal

abbrev pub invariant-loop-k : goal.invariant-loop-k
invariant-loop-k l = record {
  within : l.k ≤ l.i;
  same : (x y : TopEntry) → slice_get l.tops l.k ≡ Some x → slice_get l.tops l.i ≡ Some y → x.unit ≡ y.unit;
}

abbrev pub decreases-loop-k : goal.decreases-loop-k
decreases-loop-k l = l.k
