use Rattle.std.proofs.Common.{◌≡◌, arith}
use Rattle.dwz_graph.proofs.FileLemmas.{files_few}
use Rattle.dwz_graph_view.proofs.FileDocs.{at_index}
use Rattle.dwz_graph_view.proofs.UnitCounts.{counts_before, counts_more}
use Rattle.dwz_graph_view.proofs.unit_views.units_before.Goals as goal

pub bounds-files-number : goal.bounds-files-number
bounds-files-number c =
    let many = files_few c.args.graph.now.given c.files-files.result.now c.files-files.ensures in
    omega (arith, many, c.requires, c.loop-number-test.true)

pub overflow_add-count : goal.overflow_add-count
overflow_add-count c =
    let files = c.files-files.result.now in
    let k = c.loop-number.number in
    let many = files_few c.args.graph.now.given files c.files-files.ensures in
    let there = at_index files k c.index-files-number.result (omega (arith, many, c.requires, c.loop-number-test.true)) c.index-files-number.is in
    let r = counts_more c.args.graph.now.given files k c.loop-number.count c.len-count.result _ c.files-files.ensures there c.len-count.ensures c.loop-number.invariant in
    let few = r.0 in
    omega arith

pub loop-number-preserved : goal.loop-number-preserved
loop-number-preserved c =
    let files = c.files-files.result.now in
    let k = c.loop-number.number in
    let many = files_few c.args.graph.now.given files c.files-files.ensures in
    let there = at_index files k c.index-files-number.result (omega (arith, many, c.requires, c.loop-number-test.true)) c.index-files-number.is in
    (counts_more c.args.graph.now.given files k c.loop-number.count c.len-count.result _ c.files-files.ensures there c.len-count.ensures c.loop-number.invariant).1

pub returns : goal.returns
returns c =
    let same : c.loop-number.number ≡ c.args.file = omega (arith, c.loop-number-test.false, c.loop-number.auto.number-end) in
    counts_before c.args.graph.now.given c.loop-number.number c.args.file c.loop-number.count same c.loop-number.invariant
