use Rattle.std.proofs.Common.{◌≡◌, ◌++◌, drop}
use Rattle.dwz_run_files.specs.Prepared.{firsts_from}
use Rattle.dwz_run_files.proofs.ranks.firsts_over.Given as goal

abbrev pub invariant-loop-order : goal.invariant-loop-order
invariant-loop-order l = l.firsts.items ++ firsts_from l.first (drop l.order-index l.orders) ≡ firsts_from l.commons l.orders
