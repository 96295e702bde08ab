use Rattle.std.proofs.Common.{◌≡◌, [], drop}
use Rattle.dwz_encode_common.specs.Gathered.{with_all}
use Rattle.dwz_encode_common.specs.Stored.{order_texts}
use Rattle.dwz_encode_common.proofs.texts.common_texts.Given as goal

abbrev pub invariant-loop-items : goal.invariant-loop-items
invariant-loop-items l =
    with_all l.pool (order_texts l.graph.given l.known (drop l.items-index l.order)) ≡ with_all [] (order_texts l.graph.given l.known l.order)
