use Rattle.std.proofs.Common.{ℕ, ◌<◌, get_or}
use Rattle.dwz_check_rows.specs.Rows.{UnitsSame}
use Rattle.dwz_check_rows.proofs.answer.compare_each.Given as goal

abbrev pub invariant-loop-n : goal.invariant-loop-n
invariant-loop-n l = (k : ℕ) → k < l.n → UnitsSame l.classes l.columns (get_or l.old k 0) (get_or l.new k 0)
