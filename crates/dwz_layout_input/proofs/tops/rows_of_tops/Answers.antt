use Rattle.std.proofs.Common.{arith}
use Rattle.dwz_layout_input.proofs.TopSteps.{tops_done, tops_first, tops_next}
use Rattle.dwz_layout_input.proofs.tops.rows_of_tops.Goals as goal

pub loop-file-init : goal.loop-file-init
loop-file-init c = tops_first c.args.indexes.now 0 c.new-rows.result.items c.new-rows.ensures.items

pub loop-file-preserved : goal.loop-file-preserved
loop-file-preserved c =
    tops_next c.args.indexes.now c.loop-file.file c.index-indexes-file.result c.loop-file.rows.items c.add_tops.new.rows.items c.tops.result.now c.loop-file-test.true c.index-indexes-file.is
    c.loop-file.invariant c.in_ok-add_tops.ensures c.tops.ensures

pub returns : goal.returns
returns c = tops_done c.args.indexes.now c.loop-file.file c.loop-file.rows.items (omega arith) c.loop-file.invariant
