use Rattle.std.proofs.Common.{arith}
use Rattle.dwz_def_reading.proofs.ListFacts.{item_got}
use Rattle.dwz_graph_view.proofs.FileDocs.{files_small}
use Rattle.dwz_graph_view.proofs.UnitCounts.{left_here, left_more, left_none}
use Rattle.dwz_graph_view.proofs.unit_views.find_unit.Goals as goal

pub overflow_cast-result : goal.overflow_cast-result
overflow_cast-result c =
    let small = files_small c.args.graph.now.given c.files-file-items.result.now c.files-file-items.ensures in
    let within = c.loop-number-test.true in
    omega arith

pub returns-then-left-count : goal.returns-then-left-count
returns-then-left-count c =
    let files = c.files-file-items.result.now in
    let k = c.loop-number.number in
    let got = item_got files k c.file-item.result c.loop-number-test.true c.file-item.is in
    left_here c.args.graph.now.given files c.args.n k c.loop-number.left c.len-count.result c.file-item.result c.files-file-items.ensures got c.len-count.ensures c.if-left-count.true c.loop-number.invariant

pub loop-number-preserved : goal.loop-number-preserved
loop-number-preserved c =
    let files = c.files-file-items.result.now in
    let k = c.loop-number.number in
    let got = item_got files k c.file-item.result c.loop-number-test.true c.file-item.is in
    left_more c.args.graph.now.given files c.args.n k c.loop-number.left c.len-count.result c.file-item.result c.files-file-items.ensures got c.len-count.ensures c.if-left-count.false c.loop-number.invariant

pub unreachable-requires : goal.unreachable-requires
unreachable-requires c = left_none c.args.graph.now.given c.files-file-items.result.now c.args.n c.loop-number.number c.loop-number.left c.files-file-items.ensures c.loop-number-test.false c.loop-number.invariant
