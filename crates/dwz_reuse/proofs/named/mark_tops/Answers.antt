use Rattle.std.proofs.Common.{None, get_or, refl, arith}
use Rattle.dwz_move_files.proofs.MarkSteps.{first_any, last_any, next_any}
use Rattle.dwz_reuse.proofs.named.mark_tops.Goals as goal

pub loop-top-init : goal.loop-top-init
loop-top-init c = first_any c.args.tops.now c.args.marks.now.items

pub loop-top-preserved : goal.loop-top-preserved
loop-top-preserved c = next_any c.args.tops.now c.loop-top.top-index (get_or c.args.tops.now c.loop-top.top-index None) c.loop-top-test.true refl c.args.marks.now.items c.loop-top.marks.items
    c.mark.new.marks.items c.loop-top.invariant c.mark.ensures

pub returns : goal.returns
returns c = last_any c.args.tops.now c.loop-top.top-index (omega (arith, c.loop-top-test.false)) c.args.marks.now.items c.loop-top.marks.items c.loop-top.invariant
