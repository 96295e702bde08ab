use Rattle.std.proofs.Common.{arith}
use Rattle.dwz_layout_input.proofs.NumberSteps.{flags_more}
use Rattle.dwz_layout_input.proofs.pinned.unset_flags.Goals as goal

pub loop-index-preserved : goal.loop-index-preserved
loop-index-preserved c = flags_more c.args.indexes.now c.loop-index.index-index c.index-item.result c.spaces.result.now c.loop-index.flags.items c.put_unset.new.flags.items (omega arith)
    c.index-item.is c.spaces.ensures c.loop-index.invariant c.in_ok-put_unset.ensures
