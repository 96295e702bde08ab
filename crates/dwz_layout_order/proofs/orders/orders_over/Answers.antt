use Rattle.std.proofs.Common.{[], List, subst}
use Rattle.std.proofs.lemmas.Result.{IfOk-weaker}
use Rattle.dwz_layout.specs.declared.order.UnitItems.{UnitItems}
use Rattle.dwz_layout_order.specs.Ordered.{AreOrdersBehind}
use Rattle.dwz_layout_order.proofs.orders.orders_over.Goals as goal

pub parts_of-requires-clause-few_parts : goal.parts_of-requires-clause-few_parts
parts_of-requires-clause-few_parts c = c.requires.settled.spaced.few_parts

pub returns : goal.returns
returns c = λ indexes are. (
    let contents = c.args.graph.now.given in
    let s = c.args.settled.now in
    IfOk-weaker c.orders_behind.result (λ orders. AreOrdersBehind c.new.result.items contents indexes s orders.items) (λ orders. AreOrdersBehind [] contents indexes s orders.items)
    (λ orders b. subst (λ (w : List UnitItems). AreOrdersBehind w contents indexes s orders.items) c.new.ensures.items b) (c.orders_behind.ensures indexes are))
