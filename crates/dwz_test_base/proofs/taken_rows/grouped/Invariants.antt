use Rattle.std.proofs.Common.{◌<◌, All}
use Rattle.dwz_test_base.proofs.taken_rows.grouped.Given as goal

abbrev pub invariant-loop-edge : goal.invariant-loop-edge
invariant-loop-edge g l = All (λ e. e.key < l.count) l.below.items
