use Rattle.std.proofs.Common.{◌≡◌, ◌≤◌, ◌<◌, ℕ, Some, false, slice_get}
use Rattle.dwz_def_reading.specs.Classes.{class_of}
use Rattle.dwz_model.specs.declared.place.Pair.{Pair}
use Rattle.dwz_move.specs.Bound.{is_expression}
use Rattle.dwz_move.proofs.marks.up_to_expressions.Given as goal

abbrev pub invariant-loop-k : goal.invariant-loop-k
invariant-loop-k l = record {
  within : l.count ≤ l.k;
  behind : (j : ℕ) (p : Pair) → l.count ≤ j → j < l.k → slice_get l.pairs j ≡ Some p → is_expression (class_of p.form) ≡ false;
}
