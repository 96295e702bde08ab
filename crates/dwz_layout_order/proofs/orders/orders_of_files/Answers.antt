use Rattle.std.proofs.Common.{◌≡◌, ◌+◌, ◌<◌, length, refl, sym, ap, ◌∙◌, arith}
use Rattle.std.proofs.lemmas.Result.{IfOk-weaker}
use Rattle.dwz_groups.specs.Groups.{values_at}
use Rattle.dwz_layout_order.specs.Ordered.{AreOrders, AreOrdersBehind}
use Rattle.dwz_layout_order.specs.Parts.{file_pairs}
use Rattle.dwz_layout_order.proofs.FileSteps.{files_long, with_common}
use Rattle.dwz_layout_order.proofs.PartSteps.{hold_spaced, numbers_low, numbers_of, parts_put, settled_below}
use Rattle.dwz_layout_order.proofs.orders.orders_of_files.Goals as goal

pub parts_of-requires-clause-few_parts : goal.parts_of-requires-clause-few_parts
parts_of-requires-clause-few_parts c = c.requires.settled.spaced.few_parts

pub get-requires : goal.get-requires
get-requires c =
    let m = files_long c.args.graph.now.given c.files.result.now c.files.ensures in
    (numbers_of c.args.settled.now (length c.args.graph.now.given) (length c.files.result.now) c.args.settled.now.plan.now.partials c.in_ok-parts.parts refl c.in_ok-parts.ensures (omega arith)).0

pub parts_items-requires-clause-settled : goal.parts_items-requires-clause-settled
parts_items-requires-clause-settled c = c.requires.settled.spaced

pub parts_items-requires-clause-there : goal.parts_items-requires-clause-there
parts_items-requires-clause-there c =
    let m = files_long c.args.graph.now.given c.files.result.now c.files.ensures in
    let n = length c.files.result.now in
    numbers_low c.args.settled.now n c.get.result.now
    (c.get.ensures ∙ (numbers_of c.args.settled.now (length c.args.graph.now.given) n c.args.settled.now.plan.now.partials c.in_ok-parts.parts refl c.in_ok-parts.ensures (omega arith)).1)

pub parts_items-requires-clause-inside : goal.parts_items-requires-clause-inside
parts_items-requires-clause-inside c =
    let m = files_long c.args.graph.now.given c.files.result.now c.files.ensures in
    let n = length c.files.result.now in
    hold_spaced (length c.args.graph.now.given + 1) c.args.settled.now n c.get.result.now c.requires.settled (omega arith)
    (c.get.ensures ∙ (numbers_of c.args.settled.now (length c.args.graph.now.given) n c.args.settled.now.plan.now.partials c.in_ok-parts.parts refl c.in_ok-parts.ensures (omega arith)).1)

pub orders_behind-requires-clause-settled : goal.orders_behind-requires-clause-settled
orders_behind-requires-clause-settled c = settled_below (length c.args.graph.now.given + 1) (length c.args.graph.now.given) c.args.settled.now (omega arith) c.requires.settled

pub returns : goal.returns
returns c = λ indexes are. (
    let contents = c.args.graph.now.given in
    let s = c.args.settled.now in
    let m = files_long contents c.files.result.now c.files.ensures in
    let n = length c.files.result.now in
    let common = c.in_ok-common.common.items in
    let numbers : c.get.result.now ≡ values_at (file_pairs 0 s.plan.now.partials) (length contents) =
    c.get.ensures ∙ (numbers_of s (length contents) n s.plan.now.partials c.in_ok-parts.parts refl c.in_ok-parts.ensures (omega arith)).1
    ∙ ap (values_at (file_pairs 0 s.plan.now.partials)) (sym m) in
    IfOk-weaker c.orders_behind.result (λ orders. AreOrdersBehind common contents indexes s orders.items) (λ orders. AreOrders contents indexes s orders.items)
    (λ orders b. with_common contents indexes s common orders.items (parts_put s (length contents) c.get.result.now common numbers c.in_ok-common.ensures) b) (c.orders_behind.ensures indexes are))
