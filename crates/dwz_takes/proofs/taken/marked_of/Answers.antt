use Rattle.std.proofs.Common.{◌<◌, length, get_or, arith}
use Rattle.dwz_model.proofs.ListFacts.{in_at}
use Rattle.dwz_takes.proofs.taken.marked_of.Goals as goal

pub bounds-flags-number : goal.bounds-flags-number
bounds-flags-number c =
    let l : c.loop-number.number-index < length c.args.list.now = omega arith in
    c.requires (get_or c.args.list.now c.loop-number.number-index 0) (in_at c.args.list.now c.loop-number.number-index l)
