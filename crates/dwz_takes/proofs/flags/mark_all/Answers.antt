use Rattle.std.proofs.Common.{◌<◌, length, get_or, arith}
use Rattle.dwz_model.proofs.ListFacts.{in_at}
use Rattle.dwz_takes.proofs.MarkFacts.{mark_next}
use Rattle.dwz_takes.proofs.flags.mark_all.Goals as goal

pub bounds-flags-number : goal.bounds-flags-number
bounds-flags-number c =
    let l : c.loop-number.number-index < length c.args.list.now = omega arith in
    let low = c.requires.inside (get_or c.args.list.now c.loop-number.number-index 0) (in_at c.args.list.now c.loop-number.number-index l) in
    omega arith

pub loop-number-preserved : goal.loop-number-preserved
loop-number-preserved c =
    let l : c.loop-number.number-index < length c.args.list.now = omega arith in
    let low = c.requires.inside (get_or c.args.list.now c.loop-number.number-index 0) (in_at c.args.list.now c.loop-number.number-index l) in
    mark_next c.args.list.now c.loop-number.number-index c.loop-number.flags l (omega arith) c.loop-number.invariant
