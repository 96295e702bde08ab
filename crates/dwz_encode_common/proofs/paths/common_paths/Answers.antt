use Rattle.std.proofs.Common.{List, [], ℕ, ap, sym, ◌∙◌}
use Rattle.dwz_graph.specs.declared.file.File.{File}
use Rattle.dwz_encode_common.specs.Gathered.{with_all}
use Rattle.dwz_encode_common.specs.Paths.{order_paths, origin_paths}
use Rattle.dwz_encode_common.proofs.CommonPaths.{common_paths}
use Rattle.dwz_encode_common.proofs.TextSteps.{units_end, units_step}
use Rattle.dwz_encode_common.proofs.paths.common_paths.Goals as goal

pub loop-items-init : goal.loop-items-init
loop-items-init c = ap (λ (w : List (List ℕ)). with_all w (order_paths c.args.files.now c.args.known.now c.args.order.now))
    c.new-pool.ensures

pub loop-items-preserved : goal.loop-items-preserved
loop-items-preserved c =
    let k = c.args.known.now in
    units_step (origin_paths c.args.files.now) k c.args.order.now c.loop-items.items-index c.items-item.result c.loop-items.pool
    c.put_unit.new.pool
    (with_all [] (order_paths c.args.files.now k c.args.order.now)) c.loop-items-test.true c.items-item.is c.in_ok-put_unit.ensures
    c.loop-items.invariant

all_found : goal.returns-clause-said
all_found c =
    let k = c.args.known.now in
    units_end (origin_paths c.args.files.now) k c.args.order.now c.loop-items.items-index c.loop-items.pool
    (with_all [] (order_paths c.args.files.now k c.args.order.now)) c.loop-items-test.false c.loop-items.invariant

pub returns-clause-said : goal.returns-clause-said
returns-clause-said c = all_found c

pub returns-clause-common : goal.returns-clause-common
returns-clause-common c = λ f same is. (
    let k = c.args.known.now in
    let order = c.args.order.now in
    all_found c ∙ ap (λ (w : List File). with_all [] (order_paths w k order)) (sym same) ∙ common_paths f k order is)
