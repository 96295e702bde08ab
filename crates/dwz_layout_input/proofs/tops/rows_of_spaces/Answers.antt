use Rattle.std.proofs.Common.{arith}
use Rattle.dwz_layout_input.proofs.TopSteps.{spaces_done, spaces_first, spaces_next}
use Rattle.dwz_layout_input.proofs.tops.rows_of_spaces.Goals as goal

pub loop-file-init : goal.loop-file-init
loop-file-init c = spaces_first c.args.indexes.now 0 c.new-rows.result.items c.new-rows.ensures.items

pub loop-file-preserved : goal.loop-file-preserved
loop-file-preserved c =
    spaces_next c.args.indexes.now c.loop-file.file c.index-indexes-file.result c.loop-file.rows.items c.add_spaces.new.rows.items c.spaces.result.now c.loop-file-test.true c.index-indexes-file.is
    c.loop-file.invariant c.in_ok-add_spaces.ensures c.spaces.ensures

pub returns : goal.returns
returns c = spaces_done c.args.indexes.now c.loop-file.file c.loop-file.rows.items (omega arith) c.loop-file.invariant
