use Rattle.std.proofs.Common.{◌≡◌, [], drop}
use Rattle.dwz_encode_common.specs.Gathered.{with_all}
use Rattle.dwz_encode_common.specs.Paths.{order_paths}
use Rattle.dwz_encode_common.proofs.paths.common_paths.Given as goal

abbrev pub invariant-loop-items : goal.invariant-loop-items
invariant-loop-items l =
    with_all l.pool (order_paths l.files l.known (drop l.items-index l.order)) ≡ with_all [] (order_paths l.files l.known l.order)
