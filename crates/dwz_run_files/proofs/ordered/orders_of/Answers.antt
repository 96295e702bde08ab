use Rattle.std.proofs.lemmas.Result.{IfOk-weaker}
use Rattle.dwz_layout_order.specs.Ordered.{AreOrders}
use Rattle.dwz_run_files.specs.SettledRun.{IsInOrder}
use Rattle.dwz_run_files.proofs.RunSettled.{parts_within}
use Rattle.dwz_run_files.proofs.ordered.orders_of.Goals as goal

pub orders_of_files-requires-clause-files : goal.orders_of_files-requires-clause-files
orders_of_files-requires-clause-files c =
    parts_within c.args.graph.now.given c.args.run.now c.as_settled-settled.result c.requires.run c.as_settled-settled.ensures

pub returns : goal.returns
returns c =
    let contents = c.args.graph.now.given in
    let a = c.args.run.now in
    let lent = c.as_settled-settled.result in
    IfOk-weaker c.orders_of_files.result (λ orders. AreOrders contents a.indexes.now lent orders.items) (λ orders. IsInOrder contents a orders.items)
    (λ orders are. record { lent = lent; lends = c.as_settled-settled.ensures; are = are }) (c.orders_of_files.ensures a.indexes.now c.requires.run.indexed)
