use Rattle.std.proofs.Common.{sym, append-nil}
use Rattle.dwz_move_files.proofs.ListParts.{one_more_of}
use Rattle.dwz_move_files.proofs.outline.put_number.Goals as goal

pub loop-init : goal.loop-init
loop-init c = sym (append-nil c.args.numbers.now.items)

pub loop-preserved : goal.loop-preserved
loop-preserved c = one_more_of c.args.number c.args.numbers.now.items c.loop.numbers.items c.push.new.self.items c.loop.counter c.loop.invariant c.in_ok-push.ensures.items
