use Rattle.std.proofs.Common.{List, [], ℕ, ap, sym, ◌∙◌}
use Rattle.dwz_encode_common.specs.Gathered.{with_all}
use Rattle.dwz_encode_common.specs.Stored.{order_texts, origin_texts}
use Rattle.dwz_encode_common.proofs.CommonTexts.{common_texts}
use Rattle.dwz_encode_common.proofs.TextSteps.{units_end, units_step}
use Rattle.dwz_encode_common.proofs.texts.common_texts.Goals as goal

pub loop-items-init : goal.loop-items-init
loop-items-init c = ap (λ (w : List (List ℕ)). with_all w (order_texts c.args.graph.now.given c.args.known.now c.args.order.now))
    c.new-pool.ensures

pub loop-items-preserved : goal.loop-items-preserved
loop-items-preserved c =
    let k = c.args.known.now in
    units_step (origin_texts c.args.graph.now.given k) k c.args.order.now c.loop-items.items-index c.items-item.result c.loop-items.pool
    c.put_unit.new.pool
    (with_all [] (order_texts c.args.graph.now.given k c.args.order.now)) c.loop-items-test.true c.items-item.is c.in_ok-put_unit.ensures
    c.loop-items.invariant

all_found : goal.returns-clause-said
all_found c =
    let k = c.args.known.now in
    units_end (origin_texts c.args.graph.now.given k) k c.args.order.now c.loop-items.items-index c.loop-items.pool
    (with_all [] (order_texts c.args.graph.now.given k c.args.order.now)) c.loop-items-test.false c.loop-items.invariant

pub returns-clause-said : goal.returns-clause-said
returns-clause-said c = all_found c

pub returns-clause-common : goal.returns-clause-common
returns-clause-common c = λ f same is. (
    let k = c.args.known.now in
    let order = c.args.order.now in
    all_found c ∙ ap (λ (w : List (List ℕ)). with_all [] (order_texts w k order)) (sym same) ∙ common_texts f k order is)
