use Rattle.std.proofs.Common.{◌<◌, length, get_or, arith}
use Rattle.dwz_model.proofs.ListFacts.{in_at}
use Rattle.dwz_takes.proofs.ImageFacts.{put_one}
use Rattle.dwz_takes.proofs.imaged.put.Goals as goal

pub bounds-classes-top : goal.bounds-classes-top
bounds-classes-top c =
    let l : c.loop-top.top-index < length c.args.tops.now = omega arith in
    c.requires.tops (get_or c.args.tops.now c.loop-top.top-index 0) (in_at c.args.tops.now c.loop-top.top-index l)

pub bounds-firsts-classes : goal.bounds-firsts-classes
bounds-firsts-classes c =
    let l : c.loop-top.top-index < length c.args.tops.now = omega arith in
    c.requires.classes (get_or c.args.tops.now c.loop-top.top-index 0) (in_at c.args.tops.now c.loop-top.top-index l)

pub bounds-images-top : goal.bounds-images-top
bounds-images-top c =
    let l : c.loop-top.top-index < length c.args.tops.now = omega arith in
    let low = c.requires.tops (get_or c.args.tops.now c.loop-top.top-index 0) (in_at c.args.tops.now c.loop-top.top-index l) in
    let same = c.requires.len in
    omega arith

pub loop-top-preserved : goal.loop-top-preserved
loop-top-preserved c =
    let l : c.loop-top.top-index < length c.args.tops.now = omega arith in
    let low = c.requires.tops (get_or c.args.tops.now c.loop-top.top-index 0) (in_at c.args.tops.now c.loop-top.top-index l) in
    let same = c.requires.len in
    put_one c.args.classes.now c.args.tops.now c.loop-top.top-index c.args.firsts.now c.args.images.now c.loop-top.images l (omega arith) c.loop-top.invariant
