use Rattle.std.proofs.Common.{◌∙◌, ◌+◌, ap}
use Rattle.dwz_run_files.specs.Prepared.{firsts_from}
use Rattle.dwz_run_files.proofs.FirstSteps.{firsts_end, firsts_next}
use Rattle.dwz_run_files.proofs.ranks.firsts_over.Goals as goal

pub loop-order-preserved : goal.loop-order-preserved
loop-order-preserved c =
    firsts_next c.args.orders.now c.loop-order.order-index c.loop-order.first c.in_ok-first.first c.order-item.result
    c.loop-order.firsts.items c.push.new.self.items (firsts_from c.args.commons c.args.orders.now) c.loop-order-test.true c.order-item.is
    (c.in_ok-first.ensures ∙ ap (λ n. c.loop-order.first + n) c.len.ensures) c.in_ok-push.ensures.items
    c.loop-order.invariant

pub returns : goal.returns
returns c =
    firsts_end c.args.orders.now c.loop-order.order-index c.loop-order.first c.loop-order.firsts.items (firsts_from c.args.commons c.args.orders.now)
    c.loop-order-test.false c.loop-order.invariant
