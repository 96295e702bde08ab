use Rattle.std.proofs.Common.{◌<◌, length, get_or, arith}
use Rattle.dwz_model.proofs.ListFacts.{in_at}
use Rattle.dwz_takes.proofs.watch.add_held.Goals as goal

pub bounds-classes-top : goal.bounds-classes-top
bounds-classes-top c =
    let l : c.loop-top.top-index < length c.args.tops.now = omega arith in
    c.requires (get_or c.args.tops.now c.loop-top.top-index 0) (in_at c.args.tops.now c.loop-top.top-index l)
