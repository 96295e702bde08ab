use Rattle.std.proofs.Common.{◌≡◌, ℕ, ◌<◌, Some, slice_get}
use Rattle.dwz_groups.specs.declared.tops.TopRow.{TopRow}
use Rattle.dwz_explain.specs.Found.{IsRowAt}
use Rattle.dwz_explain.proofs.found.find_row.Given as goal

abbrev pub invariant-loop-number : goal.invariant-loop-number
invariant-loop-number l = (k : ℕ) (row : TopRow) → k < l.number → slice_get l.rows k ≡ Some row → IsRowAt l.place row → ⊥
