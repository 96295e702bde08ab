use Rattle.std.proofs.Common.{◌≡◌, ℕ, Some, length, slice_get}
use Rattle.dwz_graph.specs.Here.{Here}
use Rattle.dwz_unit.specs.Rows.{units_of}
use Rattle.dwz_check_labels.specs.Files.{IsHereOf}
use Rattle.dwz_check_labels.proofs.heres.heres_of.Given as goal

abbrev pub invariant-loop-n : goal.invariant-loop-n
invariant-loop-n l = record {
  many : length l.heres.items ≡ l.n;
  each : (k : ℕ) (h : Here) → slice_get l.heres.items k ≡ Some h → IsHereOf (units_of l.units) k h;
}
