use Rattle.std.proofs.Common.{ℕ, ◌<◌}
use Rattle.dwz_model.specs.Lists.{In}
use Rattle.dwz_takes.specs.Takes.{list_at}
use Rattle.dwz_test_base.proofs.taken_rows.are_below.Given as goal

abbrev pub invariant-loop-key : goal.invariant-loop-key
invariant-loop-key l = (k x : ℕ) → k < l.key → In x (list_at l.lists k) → x < l.bound
