use Rattle.std.proofs.Common.{sym, append-nil}
use Rattle.dwz_move_files.proofs.MarkSteps.{unset_more}
use Rattle.dwz_layout_input.proofs.pinned.put_unset.Goals as goal

pub loop-init : goal.loop-init
loop-init c = sym (append-nil c.args.flags.now.items)

pub loop-preserved : goal.loop-preserved
loop-preserved c = unset_more c.args.flags.now.items c.loop.flags.items c.push.new.self.items c.loop.counter c.loop.invariant c.in_ok-push.ensures.items
