use Rattle.std.proofs.Common.{◌+◌, ◌∷◌, ◌++◌, [], ℕ, List, length, refl, ap, ◌∙◌, arith}
use Rattle.dwz_graph.specs.Files.{docs_of}
use Rattle.dwz_graph.specs.Index.{Index}
use Rattle.dwz_graph.proofs.IndexesThere.{of_indexes}
use Rattle.dwz_layout_order.specs.Ordered.{AreOrdersBehind}
use Rattle.dwz_layout_order.proofs.FileSteps.{all_put, file_is_small, many, one_more, starts, steps_many, units_within}
use Rattle.dwz_layout_order.proofs.PartSteps.{numbers_of, settled_below}
use Rattle.dwz_layout_order.proofs.orders.orders_behind.Goals as goal

pub loop-number-init : goal.loop-number-init
loop-number-init c =
    starts c.args.graph.now.given c.files-files.result.now c.indexes-indexes.result.now c.files-files.ensures c.indexes-indexes.ensures c.args.settled.now c.args.common.items c.push.new.self.items
    (c.in_ok-push.ensures.items ∙ (λ i. c.new-orders.ensures.items i ++ c.new.ensures i ∷ []))

pub bounds-indexes-number : goal.bounds-indexes-number
bounds-indexes-number c = (let m = (many c.args.graph.now.given c.files-files.result.now c.indexes-indexes.result.now c.files-files.ensures c.indexes-indexes.ensures).1 in omega arith)

pub overflow_cast-number : goal.overflow_cast-number
overflow_cast-number c = (let m = (many c.args.graph.now.given c.files-files.result.now c.indexes-indexes.result.now c.files-files.ensures c.indexes-indexes.ensures).0 in let few = c.requires.few in omega arith)

pub put_file-requires-clause-settled : goal.put_file-requires-clause-settled
put_file-requires-clause-settled c =
    let m = (many c.args.graph.now.given c.files-files.result.now c.indexes-indexes.result.now c.files-files.ensures c.indexes-indexes.ensures).0 in
    settled_below (length c.args.graph.now.given) (c.loop-number.number + 1) c.args.settled.now (omega arith) c.requires.settled

pub put_file-requires-clause-there : goal.put_file-requires-clause-there
put_file-requires-clause-there c =
    let m = (many c.args.graph.now.given c.files-files.result.now c.indexes-indexes.result.now c.files-files.ensures c.indexes-indexes.ensures).0 in
    (numbers_of c.args.settled.now (length c.args.graph.now.given) c.loop-number.number c.args.settled.now.plan.now.partials c.args.parts.now refl c.requires.parts (omega arith)).0

pub put_file-requires-clause-numbers : goal.put_file-requires-clause-numbers
put_file-requires-clause-numbers c =
    let m = (many c.args.graph.now.given c.files-files.result.now c.indexes-indexes.result.now c.files-files.ensures c.indexes-indexes.ensures).0 in
    (numbers_of c.args.settled.now (length c.args.graph.now.given) c.loop-number.number c.args.settled.now.plan.now.partials c.args.parts.now refl c.requires.parts (omega arith)).1

pub put_file-requires-clause-small : goal.put_file-requires-clause-small
put_file-requires-clause-small c =
    (file_is_small c.args.graph.now.given c.files-files.result.now c.indexes-indexes.result.now c.files-files.ensures c.indexes-indexes.ensures c.args.settled.now c.args.common.items c.loop-number.number c.loop-number.start
    c.loop-number.orders.items c.loop-number.invariant
    c.index-files-number.result c.index-indexes-number.result c.loop-number-test.true c.index-files-number.is c.index-indexes-number.is).0

pub put_file-requires-clause-few_units : goal.put_file-requires-clause-few_units
put_file-requires-clause-few_units c =
    (file_is_small c.args.graph.now.given c.files-files.result.now c.indexes-indexes.result.now c.files-files.ensures c.indexes-indexes.ensures c.args.settled.now c.args.common.items c.loop-number.number c.loop-number.start
    c.loop-number.orders.items c.loop-number.invariant
    c.index-files-number.result c.index-indexes-number.result c.loop-number-test.true c.index-files-number.is c.index-indexes-number.is).1

pub put_file-requires-clause-imports : goal.put_file-requires-clause-imports
put_file-requires-clause-imports c =
    let inside = units_within c.args.graph.now.given c.files-files.result.now c.indexes-indexes.result.now c.files-files.ensures c.indexes-indexes.ensures c.args.settled.now c.args.common.items c.loop-number.number c.loop-number.start
    c.loop-number.orders.items c.loop-number.invariant
    c.index-files-number.result c.index-indexes-number.result c.loop-number-test.true c.index-files-number.is c.index-indexes-number.is in
    let all = c.requires.imports in
    omega arith

pub len-start-requires : goal.len-start-requires
len-start-requires c =
    let small = (file_is_small c.args.graph.now.given c.files-files.result.now c.indexes-indexes.result.now c.files-files.ensures c.indexes-indexes.ensures c.args.settled.now c.args.common.items c.loop-number.number c.loop-number.start
    c.loop-number.orders.items c.loop-number.invariant
    c.index-files-number.result c.index-indexes-number.result c.loop-number-test.true c.index-files-number.is c.index-indexes-number.is).0.entries in
    let steps = steps_many c.args.graph.now.given c.files-files.result.now c.indexes-indexes.result.now c.files-files.ensures c.indexes-indexes.ensures c.args.settled.now c.args.common.items c.loop-number.number c.loop-number.start
    c.loop-number.orders.items c.loop-number.invariant
    c.index-files-number.result c.index-indexes-number.result c.loop-number-test.true c.index-files-number.is c.index-indexes-number.is in
    omega arith

pub overflow_add-start : goal.overflow_add-start
overflow_add-start c =
    let small = (file_is_small c.args.graph.now.given c.files-files.result.now c.indexes-indexes.result.now c.files-files.ensures c.indexes-indexes.ensures c.args.settled.now c.args.common.items c.loop-number.number c.loop-number.start
    c.loop-number.orders.items c.loop-number.invariant
    c.index-files-number.result c.index-indexes-number.result c.loop-number-test.true c.index-files-number.is c.index-indexes-number.is).0.entries in
    let steps = steps_many c.args.graph.now.given c.files-files.result.now c.indexes-indexes.result.now c.files-files.ensures c.indexes-indexes.ensures c.args.settled.now c.args.common.items c.loop-number.number c.loop-number.start
    c.loop-number.orders.items c.loop-number.invariant
    c.index-files-number.result c.index-indexes-number.result c.loop-number-test.true c.index-files-number.is c.index-indexes-number.is in
    let len = c.len-start.ensures in
    omega arith

pub loop-number-preserved : goal.loop-number-preserved
loop-number-preserved c =
    one_more c.args.graph.now.given c.files-files.result.now c.indexes-indexes.result.now c.files-files.ensures c.indexes-indexes.ensures c.args.settled.now c.args.common.items c.loop-number.number c.loop-number.start
    c.loop-number.orders.items c.loop-number.invariant
    c.index-files-number.result c.index-indexes-number.result c.loop-number-test.true c.index-files-number.is c.index-indexes-number.is
    c.put_file.new.orders.items (c.loop-number.start + c.len-start.result) (ap (λ (k : ℕ). c.loop-number.start + k) c.len-start.ensures) c.in_ok-put_file.ensures

pub returns : goal.returns
returns c =
    let contents = c.args.graph.now.given in
    let s = c.args.settled.now in
    let orders = c.loop-number.orders.items in
    of_indexes (docs_of contents) (λ (xs : List Index). AreOrdersBehind c.args.common.items contents xs s orders) c.indexes-indexes.result.now c.indexes-indexes.ensures
    (all_put c.args.graph.now.given c.files-files.result.now c.indexes-indexes.result.now c.files-files.ensures c.indexes-indexes.ensures s c.args.common.items c.loop-number.number c.loop-number.start orders (omega arith)
    c.loop-number.invariant)
