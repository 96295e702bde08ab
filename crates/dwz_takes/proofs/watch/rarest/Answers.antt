use Rattle.std.proofs.Common.{◌<◌, length, get_or, arith}
use Rattle.std.proofs.lemmas.Grind.{common_steps}
use Rattle.dwz_model.proofs.ListFacts.{in_at}
use Rattle.dwz_takes.proofs.WatchFacts.{rarest_next}
use Rattle.dwz_takes.proofs.watch.rarest.Goals as goal

pub bounds-classes-tops : goal.bounds-classes-tops
bounds-classes-tops c =
    let l : 0 < length c.args.tops.now = grind (arith, common_steps) in
    c.requires.tops (get_or c.args.tops.now 0 0) (in_at c.args.tops.now 0 l)

pub bounds-classes-top : goal.bounds-classes-top
bounds-classes-top c =
    let l : c.loop-top.top-index < length c.args.tops.now = omega arith in
    c.requires.tops (get_or c.args.tops.now c.loop-top.top-index 0) (in_at c.args.tops.now c.loop-top.top-index l)

pub rarer-class-requires-clause-second : goal.rarer-class-requires-clause-second
rarer-class-requires-clause-second c =
    let l : c.loop-top.top-index < length c.args.tops.now = omega arith in
    c.requires.classes (get_or c.args.tops.now c.loop-top.top-index 0) (in_at c.args.tops.now c.loop-top.top-index l)

pub loop-top-preserved : goal.loop-top-preserved
loop-top-preserved c =
    rarest_next c.args.holders.now c.args.classes.now c.args.tops.now c.loop-top.top-index c.loop-top.class c.rarer-class.result (omega arith) c.loop-top.invariant
    c.rarer-class.ensures.one c.rarer-class.ensures.first c.rarer-class.ensures.second
